-- What it means that the price check answers `accepted`.
-- Assumes nothing.
use Prim.Native.Nat.{ℕ, ◌≤◌, ◌<◌}
use mathlib.Core.Bool.{Bool, true, false, cond, not}
use mathlib.Core.Path.{◌≡◌, refl, sym}
use native.Mathlib.Nat.{le_of_eq}
use native.Mathlib.Omega.{arith}
use lib.Dec.{ltb}
use borrow.Author.Tests.{ltb-false, le-ltb, not-false}
use Rattle.finite.proofs.Tests.{by_test, and_rest, and_no_left, and_no_right, not_off}
use Rattle.finite.proofs.Search.{first_before, first_none_intro}
use Rattle.model.specs.Instance.{Instance}
use Rattle.model.specs.Fairness.{holds_any}
use Rattle.model.specs.Prices.{best, price_sum, price_up_to_one}
use Rattle.model.specs.Replies.{off_price, price_envy, accepted}
use Rattle.model.specs.Verdicts.{first_of_pair, first_off_price, envies_by_price, price_verdict}
use Rattle.model.proofs.Pairs.{pair_none, pair_none_elim}

-- each chore is best for its owner, and nobody's price-one is above anybody's price sum
pub record Priced (I : Instance) (x p : ℕ → ℕ) : Type 0 where
  pub best_owned : (c : ℕ) → c < I.m → best I p (x c) c ≡ true
  pub no_envy : (i j : ℕ) → i < I.n → j < I.n → holds_any I.m x i ≡ true → price_up_to_one I.m x p i ≤ price_sum I.m x p j

-- a choice that comes to its last outcome took it
last_of_three : (s t : Bool) (u v w : ℕ) → cond s (off_price u) (cond t (price_envy v w) accepted) ≡ accepted → (s ≡ false) × (t ≡ false)
last_of_three true t u v w e = let z : ◌≡◌ {A = ℕ} 0 1 = cc in absurd (omega arith)
last_of_three false true u v w e = let z : ◌≡◌ {A = ℕ} 0 1 = cc in absurd (omega arith)
last_of_three false false u v w e = (refl, refl)

module _ (I : Instance) (x p : ℕ → ℕ) where
  -- nobody envies itself by price, so that pairs of an agent with itself change nothing
  pub price_self : (i : ℕ) → envies_by_price I x p i i ≡ false
  unfolding envies_by_price price_up_to_one
  price_self i =
      let less : price_up_to_one I.m x p i ≤ price_sum I.m x p i = omega arith in
      and_no_right (holds_any I.m x i) (le-ltb _ _ less)

  pub envy_elim : (i j : ℕ) → envies_by_price I x p i j ≡ false → holds_any I.m x i ≡ true → price_up_to_one I.m x p i ≤ price_sum I.m x p j
  unfolding envies_by_price
  envy_elim i j e h = ltb-false _ _ (and_rest _ e h)

  pub envy_none : (i j : ℕ) → (holds_any I.m x i ≡ true → price_up_to_one I.m x p i ≤ price_sum I.m x p j) → envies_by_price I x p i j ≡ false
  unfolding envies_by_price
  envy_none i j h =
      by_test (holds_any I.m x i) (λ e. and_no_right (holds_any I.m x i) (le-ltb _ _ (h e))) (λ e. and_no_left _ e)

  pub accepted_elim : price_verdict I x p ≡ accepted → Priced I x p
  unfolding price_verdict first_off_price
  accepted_elim e =
      let both = last_of_three (ltb (first_off_price I x p) I.m) (ltb (first_of_pair I.n (envies_by_price I x p)) I.n) _ _ _ e in
      let all = ltb-false (first_off_price I x p) I.m both.0 in
      let none = ltb-false (first_of_pair I.n (envies_by_price I x p)) I.n both.1 in
      record {
        best_owned = λ c l. not-false _ (first_before I.m (λ c. not (best I p (x c) c)) c (omega arith));
        no_envy = λ i j l k. envy_elim i j (pair_none_elim I.n (envies_by_price I x p) none i j l k);
      }

  all_best : ((c : ℕ) → c < I.m → best I p (x c) c ≡ true) → first_off_price I x p ≡ I.m
  unfolding first_off_price
  all_best all = first_none_intro I.m (λ c. not (best I p (x c) c)) (λ c l. not_off (all c l))

  pub accepted_intro : Priced I x p → price_verdict I x p ≡ accepted
  unfolding price_verdict
  accepted_intro h =
      let none = pair_none I.n (envies_by_price I x p) (λ i j l k. envy_none i j (h.no_envy i j l k)) in
      rw (le-ltb (first_off_price I x p) I.m (le_of_eq (sym (all_best h.best_owned))), le-ltb (first_of_pair I.n (envies_by_price I x p)) I.n (le_of_eq (sym none)))
