-- What the argument needs of an opening, whoever made it.
use Rattle.std.specs.Prelude.{ℕ, ◌<◌, true, false, ◌≡◌}
use Rattle.finite.specs.Search.{any_below}
use Rattle.model.specs.Instance.{Instance}
use Rattle.model.specs.Algorithm.{State, opening_price, owner, price, group, is_entitled}
use Rattle.algorithm.specs.Reached.{Shaped}

-- All that is used of owners and prices: a chore that somebody finds easy is with somebody who finds it easy.
pub record Opened (I : Instance) (x p : ℕ → ℕ) : Type 0 where
  pub owned : (c : ℕ) → c < I.m → x c < I.n
  pub priced : (c : ℕ) → c < I.m → p c ≡ opening_price I c
  pub easy_where_can : (c : ℕ) → c < I.m → any_below I.n (λ i. I.easy i c) ≡ true → I.easy (x c) c ≡ true

-- A state in which round 1 begins.
pub record Beginning (I : Instance) (s : State) : Type 0 where
  pub shaped : Shaped I s
  pub opened : Opened I (owner I s) (price I s)
  pub no_groups : (i : ℕ) → i < I.n → group I s i ≡ 0
  pub none_entitled : (c : ℕ) → c < I.m → is_entitled I s c ≡ false
  pub no_moves : s.moves ≡ 0
  pub no_cuts : s.cuts ≡ 0
  pub in2b : s.stage ≡ 0
