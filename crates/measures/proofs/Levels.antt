-- Chores of one cost w, dealt to n bundles, leave each bundle at most L, where all costs and L are multiples of w and n bundles of L have room
-- for them. Of the cheapest bundle it is used only that n times its cost is at most the sum.
-- Assumes nothing.
use Prim.Native.Nat.{ℕ, zero, suc, ◌+◌, ◌*◌, ◌-◌, ◌≤◌, ◌<◌, ◌∣◌}
use mathlib.Core.Bool.{true}
use mathlib.Core.List.{List}
use mathlib.Core.Path.{◌≡◌, refl}
use native.Mathlib.Nat.{mul-suc, lt_of_mul-lt-mul_left, dvd_refl, dvd-add, dvd-sub, le_of_dvd}
use native.Mathlib.Omega.{arith}
use lib.ListN.{length, get_or, length-set}
use lib.Seq.{get_or-set_same, get_or-set_other}
use Rattle.finite.specs.Sums.{sum_to}
use Rattle.finite.proofs.Below.{by_same}
use Rattle.finite.proofs.Sums.{sum_const, sum_mono, sum_change}
use Rattle.finite.proofs.Chosen.{smaller, chosen_found, smallest_le}
use Rattle.finite.proofs.Running.{smallest_some}
use Rattle.measures.specs.Dealing.{cheapest, added_to, dealt_one, dealt_on}

-- what n bundles cost together
abbrev pub in_all : ℕ → List ℕ → ℕ
in_all n costs = sum_to n (λ k. get_or costs k 0)

-- each of n bundles costs a multiple of w that is at most L
pub record Level (n w L : ℕ) (costs : List ℕ) : Type 0 where
  pub room : n ≤ length costs
  pub most : (k : ℕ) → k < n → get_or costs k 0 ≤ L
  pub multiple : (k : ℕ) → k < n → w ∣ get_or costs k 0

-- one bundle costs w more, the others what they did
module _ (k w : ℕ) (costs : List ℕ) where
  pub added_long : length (added_to k w costs) ≡ length costs
  unfolding added_to
  added_long = length-set costs k (get_or costs k 0 + w)

  pub added_here : k < length costs → get_or (added_to k w costs) k 0 ≡ get_or costs k 0 + w
  unfolding added_to
  added_here = get_or-set_same costs k (get_or costs k 0 + w) 0

  pub added_other : (j : ℕ) → (j ≡ k → ⊥) → get_or (added_to k w costs) j 0 ≡ get_or costs j 0
  unfolding added_to
  added_other j = get_or-set_other costs k j (get_or costs k 0 + w) 0

-- the cheapest of n bundles, where there is one
module _ {n : ℕ} (costs : List ℕ) (some : 0 < n) where
  pub cheapest_below : cheapest n costs < n
  unfolding cheapest
  cheapest_below = smallest_some (λ k. get_or costs k 0) some

  pub cheapest_least : (k : ℕ) → k < n → get_or costs (cheapest n costs) 0 ≤ get_or costs k 0
  unfolding cheapest
  cheapest_least k l =
      smallest_le (λ k. get_or costs k 0) (chosen_found n (λ k. true) (smaller (λ k. get_or costs k 0)) cheapest_below) k l refl

  cheapest_in_all : n * get_or costs (cheapest n costs) 0 ≤ in_all n costs
  cheapest_in_all = rw (← sum_const n (get_or costs (cheapest n costs) 0)) (sum_mono n cheapest_least)

-- one chore dealt
module _ {n w L : ℕ} {costs : List ℕ} (some : 0 < n) (positive : 0 < w) (top : w ∣ L) (level : Level n w L costs) (fits : in_all n costs + w ≤ n * L) where
  least_fits : get_or costs (cheapest n costs) 0 + w ≤ L
  least_fits =
      let v = get_or costs (cheapest n costs) 0 in
      let less : v < L = lt_of_mul-lt-mul_left n (omega (arith, cheapest_in_all costs some)) in
      let gap : w ≤ L - v = le_of_dvd (omega arith) (dvd-sub w top (level.multiple (cheapest n costs) (cheapest_below costs some))) in
      omega arith

  one_more : Level n w L (dealt_one n w costs)
  unfolding dealt_one
  one_more =
      let v = cheapest n costs in
      let below : v < n = cheapest_below costs some in
      let here = added_here v w costs (omega (arith, level.room)) in
      record {
        room = rw (added_long v w costs) level.room;
        most = λ k l. by_same k v (λ e. rw (e, here) least_fits) (λ ne. rw (added_other v w costs k ne) (level.most k l));
        multiple = λ k l.
            by_same k v (λ e. rw (e, here) (dvd-add w (level.multiple v below) (dvd_refl w)))
            (λ ne. rw (added_other v w costs k ne) (level.multiple k l));
      }

-- what they cost together grows by w
one_in_all : {n : ℕ} (w : ℕ) (costs : List ℕ) → 0 < n → n ≤ length costs → in_all n (dealt_one n w costs) ≡ in_all n costs + w
unfolding dealt_one
one_in_all {n} w costs some room =
    let v = cheapest n costs in
    let below : v < n = cheapest_below costs some in
    let here = added_here v w costs (omega arith) in
    omega (arith, here, sum_change {n = n} {f = λ k. get_or (added_to v w costs) k 0} {g = λ k. get_or costs k 0} v below (λ k l. added_other v w costs k))

-- so many chores dealt, one after the other
pub record Dealt (n w L : ℕ) (costs : List ℕ) (count : ℕ) : Type 0 where
  pub level : Level n w L (dealt_on n w count costs)
  pub together : in_all n (dealt_on n w count costs) ≡ in_all n costs + w * count

pub dealt-level : {n w L : ℕ} {costs : List ℕ} → 0 < n → 0 < w → w ∣ L → Level n w L costs → (count : ℕ) → in_all n costs + w * count ≤ n * L → Dealt n w L costs count
unfolding dealt_on
dealt-level {n} {w} {L} {costs} some positive top level zero fits = record { level = level; together = omega arith }
dealt-level {n} {w} {L} {costs} some positive top level (suc k) fits =
    let more : w * suc k ≡ w * k + w = mul-suc w k in
    let before = dealt-level some positive top level k (omega arith) in
    record {
      level = one_more some positive top before.level (omega (arith, before.together));
      together = omega (arith, one_in_all w (dealt_on n w k costs) some before.level.room, before.together);
    }
