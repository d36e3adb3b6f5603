-- With two costs two counts are enough: difficult chores are taken off first, then easy ones.
-- Assumes nothing.
use Prim.Native.Nat.{ℕ, zero, suc, ◌+◌, ◌*◌, ◌-◌, ◌≤◌, ◌<◌, min}
use mathlib.Core.Bool.{Bool, false, not, ◌&&◌}
use mathlib.Core.Path.{◌≡◌, refl, sym, ap, ap₂, ◌∙◌}
use native.Mathlib.Nat.{add-mul}
use native.Mathlib.Numerals.{unary_clauses}
use native.Mathlib.Omega.{arith}
use borrow.Author.Tests.{not-true}
use Rattle.finite.specs.Sums.{sum_where, count_to}
use Rattle.finite.specs.Search.{any_below, Hit}
use Rattle.finite.proofs.Tests.{by_test, and_elim, and_intro, and_no_left, not_on}
use Rattle.finite.proofs.Search.{any_elim, any_none}
use Rattle.finite.proofs.Where.{where_value, where_split}
use Rattle.finite.proofs.Counts.{where_const, count_none, count_mono, count_change, count_split}
use Rattle.finite.proofs.Chosen.{greatest_ge}
use Rattle.model.specs.Instance.{Instance, cost}
use Rattle.model.specs.Fairness.{owns, bundle_size, total, cost_to}
use Rattle.model.specs.Slack.{costliest, without_costliest, left_after, rest_cost}
use Rattle.welfare.proofs.Costs.{cost_easy, cost_difficult}
use Rattle.welfare.proofs.TakenOff.{without_left, costliest_left, costliest_off, others_left}
use Rattle.welfare.proofs.Slack.{count_left}

parts : (p q : ℕ) {r : ℕ} (w : ℕ) → p + q ≡ r → p * w + q * w ≡ r * w
parts p q w e = sym (add-mul p q w) ∙ ap (λ k. k * w) e

module _ (I : Instance) (i : ℕ) where
  -- how many of the chores that are left are difficult for agent i
  abbrev pub difficult_of : (ℕ → Bool) → ℕ
  difficult_of left = count_to I.m (λ c. left c && not (I.easy i c))

  module _ (dearer : I.a < I.b) (left : ℕ → Bool) where
    -- each chore costs a, and b - a more where it is difficult
    cost_by_counts : sum_where I.m left (cost I i) ≡ count_to I.m left * I.a + difficult_of left * (I.b - I.a)
    cost_by_counts =
        let m = I.m in
        let easy : ℕ → Bool = λ c. left c && I.easy i c in
        let difficult : ℕ → Bool = λ c. left c && not (I.easy i c) in
        let at_a = where_value m easy (λ c _ p. cost_easy I i c (and_elim (left c) (I.easy i c) p).1) ∙ where_const m I.a easy in
        let at_b = where_value m difficult (λ c _ p. cost_difficult I i c (not-true _ (and_elim (left c) (not (I.easy i c)) p).1)) ∙ where_const m I.b difficult in
        let more = parts I.a (I.b - I.a) {r = I.b} (count_to m difficult) (omega arith) in
        let all = parts (count_to m easy) (count_to m difficult) {r = count_to m left} I.a (sym (count_split m left (I.easy i))) in
        omega (arith, where_split m left (I.easy i) (cost I i), at_a, at_b, more, all)

    -- a difficult chore goes first
    some_difficult : Hit I.m (λ c. left c && not (I.easy i c)) → difficult_of (without_costliest I i left) + 1 ≡ difficult_of left
    some_difficult r =
        let d = r.index in
        let both = and_elim (left d) (not (I.easy i d)) r.passes in
        let some : Hit I.m left = record { index = d; below = r.below; passes = both.0 } in
        let top = costliest_left I i left some in
        let c = costliest I i left in
        let least : cost I i d ≤ cost I i c = greatest_ge (cost I i) top d r.below both.0 in
        let hard : I.easy i c ≡ false =
        by_test (I.easy i c)
        (λ e. absurd (omega (arith, dearer, least, cost_easy I i c e, cost_difficult I i d (not-true _ both.1))))
        (λ e. e) in
        sym
        (count_change (λ c. without_costliest I i left c && not (I.easy i c)) (λ c. left c && not (I.easy i c)) c top.below
        (and_no_left _ (costliest_off I i left some))
        (and_intro top.passes (not_on hard))
        (λ k _ ne. ap (λ b. b && not (I.easy i k)) (others_left I i left some k ne)))

    none_difficult : difficult_of left ≡ 0 → difficult_of (without_costliest I i left) ≡ 0
    none_difficult e =
        let fewer =
        count_mono I.m (λ c. without_costliest I i left c && not (I.easy i c)) (λ c. left c && not (I.easy i c)) λ c _ p.
        let both = and_elim (without_costliest I i left c) (not (I.easy i c)) p in
        and_intro (without_left I i left c both.0) both.1 in
        omega (arith, fewer)

    difficult_off : difficult_of (without_costliest I i left) ≡ difficult_of left - 1
    difficult_off =
        by_test (any_below I.m (λ c. left c && not (I.easy i c)))
        (λ e. omega (arith, some_difficult (any_elim I.m _ e)))
        (λ e.
        let none = count_none I.m _ (any_none I.m (λ c. left c && not (I.easy i c)) e) in
        omega (arith, none, none_difficult none))

  module _ (dearer : I.a < I.b) (x : ℕ → ℕ) where
    difficult_left : (k : ℕ) → difficult_of (left_after k I x i) ≡ difficult_of (owns x i) - k
    unfolding left_after
    difficult_left zero = simp unary_clauses refl
    difficult_left (suc k) = omega (arith, difficult_off dearer (left_after k I x i), difficult_left k)

    -- what is taken off: as many chores as t, or all of them, difficult ones first
    pub off_by_counts : (t : ℕ) → min t (bundle_size I.m x i) * I.a + min t (difficult_of (owns x i)) * (I.b - I.a) + rest_cost t I x i ≡ cost_to I x i i
    unfolding rest_cost cost_to total bundle_size
    off_by_counts t =
        let T = count_to I.m (owns x i) in
        let H = difficult_of (owns x i) in
        let rest = cost_by_counts dearer (left_after t I x i) ∙ ap₂ (λ k h. k * I.a + h * (I.b - I.a)) (count_left I x i t) (difficult_left t) in
        let all = parts (min t T) (T - t) {r = T} I.a (omega arith) in
        let difficult = parts (min t H) (H - t) {r = H} (I.b - I.a) (omega arith) in
        omega (arith, rest, cost_by_counts dearer (owns x i), all, difficult)
