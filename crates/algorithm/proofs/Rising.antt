-- The least sum at cuts does not fall.
-- Assumes nothing.
use Prim.Native.Nat.{ℕ, ◌+◌, ◌*◌, ◌≤◌, ◌<◌}
use mathlib.Core.Bool.{Bool, true, false, cond}
use mathlib.Core.Path.{◌≡◌, refl, sym, ap, ◌∙◌}
use native.Mathlib.Nat.{mul-pos, mul-le-mul_right, suc-mul}
use native.Mathlib.Omega.{arith}
use lib.Dec.{eqb}
use borrow.Author.Tests.{eqb-true}
use Rattle.finite.specs.Sums.{sum_where}
use Rattle.finite.proofs.Tests.{and_intro, not_on}
use Rattle.finite.proofs.Below.{by_less}
use Rattle.finite.proofs.Sums.{sum_cong}
use Rattle.finite.proofs.Where.{where_zeros, where_value, where_wider, where_strict}
use Rattle.finite.proofs.Counts.{where_const}
use Rattle.finite.proofs.Extremes.{Low}
use Rattle.finite.proofs.Fibres.{fibres_of}
use Rattle.model.specs.Instance.{Instance}
use Rattle.model.specs.Fairness.{owns, bundle_size, total}
use Rattle.model.specs.Prices.{price_sum}
use Rattle.model.specs.Step2b.{least_sum, reachable, due2b}
use Rattle.algorithm.specs.Kinds.{Sound}
use Rattle.algorithm.specs.Core.{Core}
use Rattle.algorithm.specs.Phases.{Began}
use Rattle.algorithm.proofs.UpToOne.{up_near}
use Rattle.algorithm.proofs.Best.{free_uncut, best_outside, one_price, none_dearer}
use Rattle.algorithm.proofs.Rings.{least_of_lem, within_zero, least_low, within_more, not_due, reachable_closed}

-- what the agents that pass hold together is what the chores that they own come to
held_by : (n m : ℕ) (x p : ℕ → ℕ) (t : ℕ → Bool) → ((c : ℕ) → c < m → x c < n) → sum_where n t (price_sum m x p) ≡ sum_where m (λ c. t (x c)) p
unfolding sum_where total owns
held_by n m x p t h = sum_cong n (λ i l. sym (one (t i) i)) ∙ fibres_of n m x (λ i c. cond (t i) (p c) 0) h
  where
    one : (b : Bool) (i : ℕ) → sum_where m (λ c. eqb (x c) i) (λ c. cond b (p c) 0) ≡ cond b (sum_where m (λ c. eqb (x c) i) p) 0
    one true i = refl
    one false i = where_zeros m (λ c. eqb (x c) i) (λ c l o. refl)

-- chores of one price
sum_count : (m b : ℕ) (x p : ℕ → ℕ) (i : ℕ) → ((c : ℕ) → c < m → x c ≡ i → p c ≡ b) → price_sum m x p i ≡ bundle_size m x i * b
unfolding total owns bundle_size
sum_count m b x p i h = where_value m (owns x i) (λ c l o. h c l (eqb-true (x c) i o)) ∙ where_const m b (owns x i)

-- a greater multiple is greater by b at least
next_multiple : (b s r : ℕ) → s * b < r * b → s * b + b ≤ r * b
next_multiple b s r h =
    by_less s r
    (λ l. omega (arith, mul-le-mul_right b l, suc-mul s b))
    (λ l. absurd (omega (arith, mul-le-mul_right b l)))

pub least_reachable : (I : Instance) (x p : ℕ → ℕ) → 0 < I.n → (i : ℕ) → price_sum I.m x p i ≡ least_sum I x p → reachable I x p i ≡ true
unfolding reachable
least_reachable I x p some i e = within_more I x p some (omega arith) i (within_zero I x p i ∙ least_of_lem I x p i e)

module _ {I : Instance} {x p group : ℕ → ℕ} {cut : ℕ → Bool} (S : Sound I) (K : Core I x p group cut) {x₀ : ℕ → ℕ} {top : ℕ} (B : Began I p group cut x₀ top) (free : (i : ℕ) → i < I.n → reachable I x p i ≡ true → group i ≡ 0) where
  -- what somebody reachable owned at first is still with somebody reachable
  kept : (c : ℕ) → c < I.m → reachable I x p (x₀ c) ≡ true → reachable I x p (x c) ≡ true
  kept c h r =
      let i = B.core.owner c h in
      let g = free (x₀ c) i r in
      let f = free_uncut B.core c h g in
      reachable_closed I x p S.some (x c) (x₀ c) c (K.owner c h) i h refl
      (best_outside S K (x₀ c) c i g h ∙ and_intro (not_on f) (B.core.free_ok c h f g)) r

  all_kept : sum_where I.n (reachable I x p) (price_sum I.m x₀ p) ≤ sum_where I.n (reachable I x p) (price_sum I.m x p)
  all_kept =
      rw (held_by I.n I.m x₀ p (reachable I x p) B.core.owner, held_by I.n I.m x p (reachable I x p) K.owner)
      (where_wider I.m (λ c. reachable I x p (x₀ c)) (λ c. reachable I x p (x c)) p kept)

  -- what somebody outside the groups holds comes to a multiple of the one price, with either owners
  multiple : {z : ℕ → ℕ} → Core I z p group cut → (i : ℕ) → group i ≡ 0 → price_sum I.m z p i ≡ bundle_size I.m z i * (I.a * I.b)
  multiple {z} M i g =
      sum_count I.m (I.a * I.b) z p i λ c l o.
      one_price S M B.some_group c l (free_uncut M c l (ap group o ∙ g))

  -- were the least sum below `top`, everybody reachable would have held more than it by the one price at first, and hold at most that now
  module _ (settled : due2b I x p ≡ false) (less : least_sum I x p < top) where
    lowest : Low I.n (price_sum I.m x p) (least_sum I x p)
    lowest = least_low I x p S.some

    found : reachable I x p lowest.index ≡ true
    found = least_reachable I x p S.some lowest.index lowest.value

    had : (i : ℕ) → i < I.n → reachable I x p i ≡ true → least_sum I x p + I.a * I.b ≤ price_sum I.m x₀ p i
    had i hi r =
        let g = free i hi r in
        let l = lowest.index in
        let now = multiple K l (free l lowest.below found) in
        let old = multiple B.core i g in
        let more = next_multiple (I.a * I.b) (bundle_size I.m x l) (bundle_size I.m x₀ i) (omega (arith, lowest.value, B.rest i hi g)) in
        omega (arith, lowest.value)

    has : (i : ℕ) → i < I.n → reachable I x p i ≡ true → price_sum I.m x p i ≤ least_sum I x p + I.a * I.b
    has i hi r =
        omega (arith, up_near I.m x p i (I.a * I.b) (λ c l o. none_dearer S K B.some_group c l), not_due I x p S.some settled i hi r)

    lost : sum_where I.n (reachable I x p) (price_sum I.m x p) < sum_where I.n (reachable I x p) (price_sum I.m x₀ p)
    lost =
        where_strict (reachable I x p) (λ i hi r. omega (arith, has i hi r, had i hi r)) lowest.index lowest.below found
        (omega (arith, lowest.value, had lowest.index lowest.below found, mul-pos S.positive positive))
      where
        positive : 0 < I.b
        positive = omega (arith, S.easier)

  pub cuts_rise : due2b I x p ≡ false → top ≤ least_sum I x p
  cuts_rise settled = by_less (least_sum I x p) top (λ l. absurd (omega (arith, lost settled l, all_kept))) (λ h. h)
