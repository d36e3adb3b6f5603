-- What any partition says of its costliest bundle: all chores together, and the difficult ones by themselves, fit n bundles that cost so much.
-- Assumes nothing.
use Prim.Native.Nat.{ℕ, ◌+◌, ◌*◌, ◌-◌, ◌/◌, ◌≤◌, ◌<◌, ◌∣◌}
use mathlib.Core.Bool.{Bool, true, false, cond, not}
use mathlib.Core.List.{List}
use mathlib.Core.Path.{◌≡◌, ◌∙◌}
use native.Mathlib.Nat.{mul_comm, mul-zero, mul-one, le-div_iff_mul-le, dvd_refl}
use native.Mathlib.Omega.{arith}
use lib.Dec.{eqb}
use lib.ListN.{get_or}
use borrow.Author.Tests.{eq-eqb, eqb-true, not-true}
use Rattle.finite.specs.Sums.{sum_to, sum_where, count_to}
use Rattle.finite.specs.Lists.{Picks}
use Rattle.finite.proofs.Tests.{bool_eq, by_cond, cond_false}
use Rattle.finite.proofs.Sums.{sum_cong, sum_at_most}
use Rattle.finite.proofs.Where.{where_multiple, where_test, where_value, where_scale_le, where_not}
use Rattle.finite.proofs.Counts.{where_const}
use Rattle.finite.proofs.Extremes.{top_above, top_attained}
use Rattle.finite.proofs.Fibres.{fibres}
use Rattle.model.specs.Instance.{Instance, cost}
use Rattle.model.specs.MaximinShare.{in_bundle, bundle_cost, costliest_bundle}

-- how many chores agent i finds difficult, and easy
abbrev pub difficult_count : Instance → ℕ → ℕ
difficult_count I i = count_to I.m (λ c. not (I.easy i c))

abbrev pub easy_count : Instance → ℕ → ℕ
easy_count I i = count_to I.m (I.easy i)

-- what all chores cost agent i
abbrev pub whole_cost : Instance → ℕ → ℕ
whole_cost I i = sum_to I.m (cost I i)

-- n bundles that cost agent i at most M each have room for its chores
pub record Bearable (I : Instance) (i M : ℕ) : Type 0 where
  pub costs : whole_cost I i ≤ I.n * M
  pub difficult : difficult_count I i ≤ I.n * (M / I.b)
  pub multiple : I.a ∣ M

-- costs by the two kinds
pub whole_cost_lem : (I : Instance) (i : ℕ) → whole_cost I i ≡ I.b * difficult_count I i + I.a * easy_count I i
unfolding cost
whole_cost_lem I i =
    let m = I.m in
    let e = I.easy i in
    let easy : sum_where m e (cost I i) ≡ easy_count I i * I.a = where_value m e (λ c l p. rw p) ∙ where_const m I.a e in
    let hard : sum_where m (λ c. not (e c)) (cost I i) ≡ difficult_count I i * I.b = where_value m (λ c. not (e c)) (λ c l p. cond_false I.a I.b (not-true (e c) p)) ∙ where_const m I.b (λ c. not (e c)) in
    omega (arith, where_not m e (cost I i), easy, hard, mul_comm (easy_count I i) I.a, mul_comm (difficult_count I i) I.b)

cost_multiple : (I : Instance) (i c : ℕ) → I.a ∣ I.b → I.a ∣ cost I i c
unfolding cost
cost_multiple I i c divides = by_cond (λ v. I.a ∣ v) (I.easy i c) I.a I.b (λ _. dvd_refl I.a) (λ _. divides)

module _ (I : Instance) (i : ℕ) where
  -- 1 for a difficult chore, 0 for an easy one
  difficult_one : ℕ → ℕ
  difficult_one c = cond (not (I.easy i c)) 1 0

  difficult_cost : (c : ℕ) → I.b * difficult_one c ≤ 1 * cost I i c
  unfolding difficult_one cost
  difficult_cost c = point (I.easy i c)
    where
      point : (t : Bool) → I.b * cond (not t) 1 0 ≤ 1 * cond t I.a I.b
      point true = rw (mul-zero I.b) (omega arith)
      point false = rw (mul-one I.b) (omega arith)

  -- every chore of a partition is in one of n bundles
  module _ {y : List ℕ} (p : Picks I.n I.m y) where
    pub in_one : (k c : ℕ) → c < I.m → in_bundle y k c ≡ eqb (get_or y c 0 - 1) k
    unfolding in_bundle
    in_one k c l =
        let some = p.positive c l in
        bool_eq (λ e. eq-eqb (get_or y c 0 - 1) k (omega (arith, eqb-true (get_or y c 0) (k + 1) e)))
        (λ e. eq-eqb (get_or y c 0) (k + 1) (omega (arith, eqb-true (get_or y c 0 - 1) k e)))

    by_bundles : (f : ℕ → ℕ) → sum_to I.n (λ k. sum_where I.m (in_bundle y k) f) ≡ sum_to I.m f
    by_bundles f =
        sum_cong I.n (λ k l. where_test I.m f (in_one k))
        ∙ fibres I.n I.m (λ c. get_or y c 0 - 1) f (λ c l. omega (arith, p.positive c l, p.bounded c l))

    -- a bundle has at most as many difficult chores as fit the costliest
    few_difficult : 0 < I.b → (k : ℕ) → k < I.n → sum_where I.m (in_bundle y k) difficult_one ≤ costliest_bundle I i y / I.b
    unfolding costliest_bundle bundle_cost
    few_difficult positive k l =
        let d = sum_where I.m (in_bundle y k) difficult_one in
        let cheaper : I.b * d ≤ 1 * bundle_cost I i y k = where_scale_le I.m I.b 1 (in_bundle y k) difficult_one (cost I i) (λ c _ _. difficult_cost c) in
        let most = top_above (bundle_cost I i y) k l in
        (le-div_iff_mul-le positive).1 (omega (arith, cheaper, most, mul_comm d I.b))

    pub bearable : 0 < I.n → 0 < I.b → I.a ∣ I.b → Bearable I i (costliest_bundle I i y)
    unfolding costliest_bundle bundle_cost difficult_one count_to
    bearable some positive divides =
        record {
          costs = rw (← by_bundles (cost I i)) (sum_at_most I.n (costliest_bundle I i y) (top_above (bundle_cost I i y)));
          difficult = rw (← by_bundles difficult_one) (sum_at_most I.n (costliest_bundle I i y / I.b) (few_difficult positive));
          multiple =
              let top = top_attained (bundle_cost I i y) some in
              rw (← top.value) (bundle_multiple top.index);
        }
      where
        bundle_multiple : (k : ℕ) → I.a ∣ bundle_cost I i y k
        bundle_multiple k = where_multiple I.m I.a (in_bundle y k) (λ c. cost_multiple I i c divides)
