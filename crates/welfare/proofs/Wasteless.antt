-- Where the test for waste fails, no list dominates: each agent gets a weight, under which no chore has a cheaper owner than its own.
-- Assumes nothing.
use Prim.Native.Nat.{ℕ, ◌*◌, ◌≤◌, ◌<◌}
use mathlib.Core.Bool.{true, false}
use mathlib.Core.Path.{◌≡◌, refl}
use native.Mathlib.Nat.{le_refl, mul-le-mul, mul-le-mul_left, mul-lt-mul_of_pos_left}
use native.Mathlib.Omega.{arith}
use Rattle.finite.specs.Sums.{sum_to}
use Rattle.finite.proofs.Tests.{by_test, clash, not_yes, not_no, le-cond}
use Rattle.finite.proofs.Sums.{sum_mono, sum_strict}
use Rattle.finite.proofs.Fibres.{fibres_weight}
use Rattle.model.specs.Instance.{Instance, cost}
use Rattle.model.specs.Fairness.{owns, total, cost_to, dominates}
use Rattle.welfare.specs.Waste.{connected, waste_test, weight}
use Rattle.welfare.proofs.Costs.{Weighted, cost_easy, cost_difficult, cost_at_least, burden_intro, passes_intro}
use Rattle.welfare.proofs.Domination.{not-dominated}
use Rattle.welfare.proofs.Connected.{connected-burdened, connected_link, waste_intro}

module _ (I : Instance) (x : ℕ → ℕ) (w : Weighted I) where
  weight-connected : (i : ℕ) → connected I x I.n i ≡ true → weight I x i ≡ I.a
  unfolding weight
  weight-connected i e = rw e

  weight_other : (i : ℕ) → connected I x I.n i ≡ false → weight I x i ≡ I.b
  unfolding weight
  weight_other i e = rw e

  weight_at_least : (i : ℕ) → I.a ≤ weight I x i
  unfolding weight
  weight_at_least i = le-cond (connected I x I.n i) (λ e. le_refl _) (λ e. w.easy_least)

  -- agent i's cost of all its chores, weighted, summed over the agents: a sum over the chores
  weighted_sum : (y : ℕ → ℕ) → ((c : ℕ) → c < I.m → y c < I.n) → sum_to I.n (λ i. weight I x i * cost_to I y i i) ≡ sum_to I.m (λ c. weight I x (y c) * cost I (y c) c)
  unfolding cost_to total owns
  weighted_sum y h = fibres_weight I.n I.m y (weight I x) (cost I) h

  module _ (owner : (c : ℕ) → c < I.m → x c < I.n) (fine : waste_test I x ≡ false) where
    -- a chore difficult for its owner is difficult for every connected agent
    stays : (c j : ℕ) → c < I.m → j < I.n → I.easy (x c) c ≡ false → connected I x I.n j ≡ true → I.easy j c ≡ false
    stays c j l k d h =
        not_yes (I.easy j c) λ e.
        clash (waste_intro (record { chore = c; below = l; difficult = d; taker = j; taker_below = k; taker_connected = h; taker_easy = e })) fine

    -- what an agent that is not connected owns is easy for it, and difficult for the connected
    easy_outside : (c : ℕ) → c < I.m → connected I x I.n (x c) ≡ false → I.easy (x c) c ≡ true
    easy_outside c l out =
        not_no (I.easy (x c) c) (λ d. clash (connected-burdened I x I.n (x c) (burden_intro I x (x c) c l refl d)) out)

    difficult_inside : (c j : ℕ) → c < I.m → j < I.n → connected I x I.n (x c) ≡ false → connected I x I.n j ≡ true → I.easy j c ≡ false
    difficult_inside c j l k out h =
        not_yes (I.easy j c) λ e.
        clash (connected_link I x (x c) j (owner c l) k h (passes_intro I x (x c) j c l refl (easy_outside c l out) e)) out

    -- under the weights no chore has a cheaper owner than its own: one that is difficult for a connected owner,
    cheapest_difficult : (c j : ℕ) → c < I.m → j < I.n → I.easy (x c) c ≡ false → I.a * I.b ≤ weight I x j * cost I j c
    cheapest_difficult c j l k d =
        by_test (connected I x I.n j)
        (λ g. rw (weight-connected j g, cost_difficult I j c (stays c j l k d g)) (le_refl _))
        (λ g. rw (weight_other j g) (omega (arith, mul-le-mul_left I.b (cost_at_least I j c w.easy_least))))

    -- one whose owner is not connected,
    cheapest_outside : (c j : ℕ) → c < I.m → j < I.n → connected I x I.n (x c) ≡ false → I.b * I.a ≤ weight I x j * cost I j c
    cheapest_outside c j l k h =
        by_test (connected I x I.n j)
        (λ g. rw (weight-connected j g, cost_difficult I j c (difficult_inside c j l k h g)) (omega arith))
        (λ g. rw (weight_other j g) (mul-le-mul_left I.b (cost_at_least I j c w.easy_least)))

    -- or one that is easy for a connected owner, at the least cost there is
    cheapest_inside : (c j : ℕ) → c < I.m → j < I.n → connected I x I.n (x c) ≡ true → I.a * cost I (x c) c ≤ weight I x j * cost I j c
    cheapest_inside c j l k h =
        by_test (I.easy (x c) c)
        (λ e. rw (cost_easy I (x c) c e) (mul-le-mul (weight_at_least j) (cost_at_least I j c w.easy_least)))
        (λ d. rw (cost_difficult I (x c) c d) (cheapest_difficult c j l k d))

    pub cheapest : (c j : ℕ) → c < I.m → j < I.n → weight I x (x c) * cost I (x c) c ≤ weight I x j * cost I j c
    cheapest c j l k =
        by_test (connected I x I.n (x c))
        (λ h. rw (weight-connected (x c) h) (cheapest_inside c j l k h))
        (λ h. rw (weight_other (x c) h, cost_easy I (x c) c (easy_outside c l h)) (cheapest_outside c j l k h))

    -- so in all no list is cheaper under the weights, and a dominating one would be
    pub wasteless : (y : ℕ → ℕ) → ((c : ℕ) → c < I.m → y c < I.n) → dominates I y x ≡ false
    wasteless y range = not-dominated I y x λ better.
        let positive : 0 < weight I x better.who = omega (arith, weight_at_least better.who) in
        let less = sum_strict {n = I.n} {f = λ i. weight I x i * cost_to I y i i} {g = λ i. weight I x i * cost_to I x i i}
        (λ i l. mul-le-mul_left (weight I x i) (better.none_more i l)) better.who better.below (mul-lt-mul_of_pos_left better.less positive) in
        let more = sum_mono I.m {f = λ c. weight I x (x c) * cost I (x c) c} {g = λ c. weight I x (y c) * cost I (y c) c} (λ c l. cheapest c (y c) l (range c l)) in
        omega (arith, weighted_sum y range, weighted_sum x owner)
