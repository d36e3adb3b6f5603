-- The core invariant of Algorithm 1. x gives each chore's owner, p its price, `group` each agent's cut group (0: none yet), and `cut` the
-- entitled chores.
use Rattle.std.specs.Prelude.{ℕ, ◌<◌, Bool, true, false, not, ◌&&◌, ◌≡◌}
use Rattle.finite.specs.Search.{Hit}
use Rattle.model.specs.Instance.{Instance}
use Rattle.algorithm.specs.Kinds.{ok, kind_price}

pub record Core (I : Instance) (x p group : ℕ → ℕ) (cut : ℕ → Bool) : Type 0 where
  pub owner : (c : ℕ) → c < I.m → x c < I.n
  pub priced : (c : ℕ) → c < I.m → p c ≡ kind_price I (cut c) c
  pub cut_in_group : (c : ℕ) → c < I.m → cut c ≡ true → 0 < group (x c)
  pub cut_ok : (c : ℕ) → c < I.m → cut c ≡ true → ok I (x c) c ≡ true
  pub free_ok : (c : ℕ) → c < I.m → cut c ≡ false → group (x c) ≡ 0 → ok I (x c) c ≡ true
  pub group_takes_all : (i : ℕ) → i < I.n → 0 < group i → (c : ℕ) → c < I.m → cut c ≡ false → ok I i c ≡ false
  pub has_free : (i : ℕ) → i < I.n → group i ≡ 0 → 0 < I.m → Hit I.m (λ c. not (cut c) && ok I i c)
  pub has_cut : (i : ℕ) → i < I.n → 0 < group i → 0 < I.m → Hit I.m (λ c. cut c && ok I i c)
