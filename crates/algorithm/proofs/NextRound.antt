-- Step 3: the invariants of the cut chores and of step 2a with which the next round begins.
-- Assumes nothing.
use Prim.Native.Nat.{ℕ, ◌+◌, ◌*◌, ◌≤◌, ◌<◌}
use mathlib.Core.Bool.{Bool, true, false}
use mathlib.Core.Logic.{◌⊎◌, inl, inr}
use mathlib.Core.Path.{◌≡◌, refl, ap, ◌∙◌}
use native.Mathlib.Nat.{le_of_eq, mul-le-mul_left, mul-le-mul_right, le_of_mul-le-mul_left}
use native.Mathlib.Omega.{arith}
use lib.Dec.{ltb}
use borrow.Author.Tests.{ltb-true, lt-ltb, le-ltb}
use Rattle.finite.proofs.Tests.{by_test, not_no, not_yes, cond_true}
use Rattle.finite.proofs.Below.{by_less}
use Rattle.finite.proofs.Counts.{count_le, count_strict, count_full}
use Rattle.finite.proofs.Extremes.{Low}
use Rattle.finite.specs.Sums.{count_to}
use Rattle.model.specs.Instance.{Instance}
use Rattle.model.specs.Prices.{price_sum, price_up_to_one}
use Rattle.model.specs.Step2b.{least_sum, reachable, due2b}
use Rattle.algorithm.specs.Kinds.{Sound}
use Rattle.algorithm.specs.Core.{Core}
use Rattle.algorithm.specs.Phases.{cut_price, Entitled, Stage, Quiet}
use Rattle.algorithm.specs.Cuts.{Cuts, NextRound}
use Rattle.algorithm.proofs.UpToOne.{sum_same, up_same, sum_scaled, up_scaled}
use Rattle.algorithm.proofs.Rings.{least_low, not_due}
use Rattle.algorithm.proofs.Rising.{least_reachable}
use Rattle.algorithm.proofs.Cut.{unreached_sum, outside, unreached, apart, marked, mark_kept, price_kept, joined, group_kept, still_outside, exact, cut_core}

-- sums and price-ones across the cut
module _ {I : Instance} {x p group : ℕ → ℕ} {cut : ℕ → Bool} {count : ℕ} {p' group' : ℕ → ℕ} {cut' : ℕ → Bool} (C : Cuts I x p group cut count p' group' cut') where
  -- out of reach: as they were
  module _ (i : ℕ) (r : reachable I x p i ≡ false) where
    kept : (c : ℕ) → c < I.m → x c ≡ i → p' c ≡ p c
    kept c h o = price_kept C c h (ap (reachable I x p) o ∙ r)

    cut_kept : (c : ℕ) → c < I.m → x c ≡ i → cut_price p' cut' c ≡ cut_price p cut c
    unfolding cut_price
    cut_kept c h o = rw (kept c h o, mark_kept C c h (ap (reachable I x p) o ∙ r))

    sum_out : price_sum I.m x p' i ≡ price_sum I.m x p i
    sum_out = sum_same I.m i (λ c h. refl) kept

    up_out : price_up_to_one I.m x p' i ≡ price_up_to_one I.m x p i
    up_out = up_same I.m i (λ c h. refl) kept

    cut_sum_out : price_sum I.m x (cut_price p' cut') i ≡ price_sum I.m x (cut_price p cut) i
    cut_sum_out = sum_same I.m i (λ c h. refl) cut_kept

    cut_up_out : price_up_to_one I.m x (cut_price p' cut') i ≡ price_up_to_one I.m x (cut_price p cut) i
    cut_up_out = up_same I.m i (λ c h. refl) cut_kept

  -- in reach: all that is owned is cut, and b times the new prices is a times the old
  module _ (S : Sound I) (K : Core I x p group cut) (free : (i : ℕ) → i < I.n → reachable I x p i ≡ true → group i ≡ 0) (i : ℕ) (r : reachable I x p i ≡ true) where
    scaled : (c : ℕ) → c < I.m → x c ≡ i → I.b * p' c ≡ I.a * p c
    scaled c h o = omega (arith, exact C S K free c h (ap (reachable I x p) o ∙ r))

    all_cut : (c : ℕ) → c < I.m → x c ≡ i → cut_price p' cut' c ≡ p' c
    unfolding cut_price
    all_cut c h o = cond_true (p' c) 0 (marked C c h (ap (reachable I x p) o ∙ r))

    sum_in : I.b * price_sum I.m x p' i ≡ I.a * price_sum I.m x p i
    sum_in = sum_scaled I.m I.b I.a x p' p i scaled

    up_in : I.b * price_up_to_one I.m x p' i ≡ I.a * price_up_to_one I.m x p i
    up_in = up_scaled I.m I.b I.a x p' p i scaled

    cut_sum_in : price_sum I.m x (cut_price p' cut') i ≡ price_sum I.m x p' i
    cut_sum_in = sum_same I.m i (λ c h. refl) all_cut

    cut_up_in : price_up_to_one I.m x (cut_price p' cut') i ≡ price_up_to_one I.m x p' i
    cut_up_in = up_same I.m i (λ c h. refl) all_cut

module _ {I : Instance} {x p group : ℕ → ℕ} {cut : ℕ → Bool} {count : ℕ} {p' group' : ℕ → ℕ} {cut' : ℕ → Bool} (C : Cuts I x p group cut count p' group' cut') (S : Sound I) (K : Core I x p group cut) (free : (i : ℕ) → i < I.n → reachable I x p i ≡ true → group i ≡ 0) (idle : due2b I x p ≡ false) where
  least : Low I.n (price_sum I.m x p) (least_sum I x p)
  least = least_low I x p S.some

  -- in the new group b times price-one is at most, and b times the sum at least, a times the least sum
  new_up : (i : ℕ) → i < I.n → reachable I x p i ≡ true → I.b * price_up_to_one I.m x p' i ≤ I.a * least_sum I x p
  new_up i h r =
      rw (up_in C S K free i r) (mul-le-mul_left I.a (not_due I x p S.some idle i h r))

  new_sum : (i : ℕ) → i < I.n → reachable I x p i ≡ true → I.a * least_sum I x p ≤ I.b * price_sum I.m x p' i
  new_sum i h r = rw (sum_in C S K free i r) (mul-le-mul_left I.a (least.under i h))

  new_up_le : (i : ℕ) → i < I.n → reachable I x p i ≡ true → price_up_to_one I.m x p' i ≤ least_sum I x p
  new_up_le i h r =
      let fewer : I.a * least_sum I x p ≤ I.b * least_sum I x p = mul-le-mul_right (least_sum I x p) (omega (arith, S.easier)) in
      le_of_mul-le-mul_left {k = I.b} (omega (arith, new_up i h r)) (omega (arith, S.easier))

  -- whoever has the least sum was in no group, and is in the new one
  low_reached : reachable I x p least.index ≡ true
  low_reached = least_reachable I x p S.some least.index least.value

  low_joined : 0 < group' least.index
  low_joined = omega (arith, joined C least.index least.below low_reached)

  group_stays : (i : ℕ) → i < I.n → 0 < group i → 0 < group' i
  group_stays i h g =
      by_test (reachable I x p i) (λ r. omega (arith, free i h r)) (λ r. omega (arith, group_kept C i h r))

  cut_grows : count_to I.n (λ i. ltb 0 (group i)) < count_to I.n (λ i. ltb 0 (group' i))
  cut_grows =
      count_strict (λ i. ltb 0 (group i)) (λ i. ltb 0 (group' i))
      (λ i h e. lt-ltb 0 (group' i) (group_stays i h (ltb-true 0 (group i) e)))
      least.index least.below
      (le-ltb 0 (group least.index) (le_of_eq (free least.index least.below low_reached)))
      (lt-ltb 0 (group' least.index) low_joined)

  module _ (bound : (i : ℕ) → i < I.n → group i ≤ count) where
    cut_bounded : (i : ℕ) → i < I.n → group' i ≤ count + 1
    cut_bounded i h =
        by_test (reachable I x p i) (λ r. omega (arith, joined C i h r)) (λ r. omega (arith, group_kept C i h r, bound i h))

    -- an older group is not the new one
    older : (i : ℕ) → i < I.n → group' i ≤ count → reachable I x p i ≡ false
    older i h l = not_yes (reachable I x p i) (λ r. omega (arith, joined C i h r))

    newest : (i : ℕ) → i < I.n → count < group' i → reachable I x p i ≡ true
    newest i h l = not_no (reachable I x p i) (λ r. omega (arith, group_kept C i h r, bound i h))

    cut_stage : Quiet I p group cut x → Stage I p' group' cut' x (least_sum I x p) count
    cut_stage Q =
        record {
          some_group = record { index = least.index; below = least.below; passes = lt-ltb 0 (group' least.index) low_joined };
          fair = fair;
          low = low;
          rest = λ i h g. let r = (still_outside C i h g).0 in rw (sum_out C i r) (unreached_sum I x p S.some i h r);
        }
      where
        low : (i : ℕ) → i < I.n → 0 < group' i → price_up_to_one I.m x p' i ≤ least_sum I x p
        low i h g =
            by_test (reachable I x p i) (λ r. new_up_le i h r) (λ r. rw (up_out C i r) (Q.quiet i h (omega (arith, group_kept C i h r))))

        fair : (i j : ℕ) → i < I.n → j < I.n → 0 < group' i → 0 < group' j → (count < group' i) ⊎ (group' j ≤ group' i) → price_up_to_one I.m x p' i ≤ price_sum I.m x p' j
        fair i j hi hj gi gj f =
            by_test (reachable I x p j)
            (λ r. let s = newest i hi (above f (joined C j hj r)) in le_of_mul-le-mul_left {k = I.b} (omega (arith, new_up i hi s, new_sum j hj r)) (omega (arith, S.easier)))
            (λ r. omega (arith, low i hi gi, sum_out C j r, least.under j hj))
          where
            above : (count < group' i) ⊎ (group' j ≤ group' i) → group' j ≡ count + 1 → count < group' i
            above (inl l) e = l
            above (inr l) e = omega arith

    cut_entitled : {top : ℕ} → Entitled I p group cut x top → top ≤ least_sum I x p → Entitled I p' group' cut' x (least_sum I x p)
    cut_entitled {top} E rises = record { order = order; under = under }
      where
        under : (i : ℕ) → i < I.n → 0 < group' i → I.b * price_up_to_one I.m x (cut_price p' cut') i ≤ I.a * least_sum I x p
        under i h g =
            by_test (reachable I x p i) (λ r. rw (cut_up_in C S K free i r) (new_up i h r))
            (λ r. rw (cut_up_out C i r) (omega (arith, E.under i h (omega (arith, group_kept C i h r)), mul-le-mul_left I.a rises)))

        order : (i j : ℕ) → i < I.n → j < I.n → 0 < group' i → group' i < group' j → price_up_to_one I.m x (cut_price p' cut') i ≤ price_sum I.m x (cut_price p' cut') j
        order i j hi hj gi gj =
            by_test (reachable I x p j)
            (λ r. rw (cut_sum_in C S K free j r) (le_of_mul-le-mul_left {k = I.b} (omega (arith, under i hi gi, new_sum j hj r)) (omega (arith, S.easier))))
            (λ r. let gk = group_kept C j hj r in
            let s : reachable I x p i ≡ false = older i hi (omega (arith, bound j hj)) in
            rw (cut_sum_out C j r, cut_up_out C i s) (E.order i j hi hj (omega (arith, group_kept C i hi s)) (omega (arith, group_kept C i hi s))))

count_left : {n : ℕ} (group : ℕ → ℕ) (w : ℕ) → w < n → group w ≡ 0 → count_to n (λ i. ltb 0 (group i)) < n
count_left {n} group w h e =
    by_less (count_to n (λ i. ltb 0 (group i))) n (λ l. l) λ l.
    let full = count_full n (λ i. ltb 0 (group i)) (omega (arith, count_le n (λ i. ltb 0 (group i)))) w h in
    absurd (omega (arith, ltb-true 0 (group w) full))

-- 2b ended with w above the least sum: the cut begins the next round
pub next_round : {I : Instance} {x p group : ℕ → ℕ} {cut : ℕ → Bool} {top w count : ℕ} {p' group' : ℕ → ℕ} {cut' : ℕ → Bool} → Sound I → Core I x p group cut → Entitled I p group cut x top → Quiet I p group cut x → due2b I x p ≡ false → w < I.n → least_sum I x p < price_up_to_one I.m x p w → ((i : ℕ) → i < I.n → group i ≤ count) → top ≤ least_sum I x p → Cuts I x p group cut count p' group' cut' → NextRound I x p group cut count p' group' cut'
next_round {w} {group'} S K E Q idle agent above bound rises C =
    let out : group' w ≡ 0 = group_kept C w agent (unreached S K Q idle agent above) ∙ outside S K Q idle agent above in
    let free = apart S K Q idle agent above in
    record {
      core = cut_core C S K free;
      entitled = cut_entitled C S K free idle bound E rises;
      stage = cut_stage C S K free idle bound Q;
      bounded = cut_bounded C S K free idle bound;
      grows = cut_grows C S K free idle;
      left = count_left group' w agent out;
      exact = exact C S K free;
    }
