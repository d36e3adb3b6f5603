-- The costliest chore taken off, and again: what is left, what it costs, and how many chores it is.
-- Assumes nothing.
use Prim.Native.Nat.{ℕ, ◌+◌, ◌-◌, ◌<◌}
use mathlib.Core.Bool.{Bool, true, false, not}
use mathlib.Core.Path.{◌≡◌, sym}
use native.Mathlib.Omega.{arith}
use lib.Dec.{eqb}
use borrow.Author.Tests.{ne_eqb}
use Rattle.finite.specs.Sums.{sum_where, max_where, count_to}
use Rattle.finite.specs.Search.{any_below, Hit}
use Rattle.finite.proofs.Tests.{by_test, clash, and_elim, and_no_left, and_no_right, and_keep, not_off, eqb_same}
use Rattle.finite.proofs.Search.{any_elim, any_none}
use Rattle.finite.proofs.Where.{where_none, where_off}
use Rattle.finite.proofs.Counts.{count_none, count_change}
use Rattle.finite.proofs.Extremes.{peak_above, peak_at_most}
use Rattle.finite.proofs.Chosen.{Chosen, greater, greater_order, greatest_ge, chosen_found}
use Rattle.finite.proofs.Running.{chosen_some}
use Rattle.model.specs.Instance.{Instance, cost}
use Rattle.model.specs.Slack.{costliest, without_costliest}

module _ (I : Instance) (i : ℕ) (left : ℕ → Bool) where
  -- what is left then was left before
  pub without_left : (c : ℕ) → without_costliest I i left c ≡ true → left c ≡ true
  unfolding without_costliest
  without_left c h = (and_elim (left c) (not (eqb c (costliest I i left))) h).0

  -- where something is left, the costliest of it is there

  module _ (some : Hit I.m left) where
    pub costliest_left : Chosen I.m left (greater (cost I i)) (costliest I i left)
    unfolding costliest
    costliest_left =
        chosen_found I.m left (greater (cost I i)) (chosen_some (greater_order (cost I i)) I.m left some.index some.below some.passes)

    pub costliest_off : without_costliest I i left (costliest I i left) ≡ false
    unfolding without_costliest
    costliest_off = and_no_right (left (costliest I i left)) (not_off (eqb_same (costliest I i left)))

    pub others_left : (c : ℕ) → (c ≡ costliest I i left → ⊥) → without_costliest I i left c ≡ left c
    unfolding without_costliest
    others_left c ne = and_keep (left c) (ne_eqb c (costliest I i left) ne)

    some_cost : sum_where I.m (without_costliest I i left) (cost I i) + max_where I.m left (cost I i) ≡ sum_where I.m left (cost I i)
    unfolding without_costliest
    some_cost =
        let top = costliest_left in
        let off = where_off left (cost I i) (costliest I i left) top.below top.passes in
        let above = peak_above left (cost I i) (costliest I i left) top.below top.passes in
        let under = peak_at_most I.m left (greatest_ge (cost I i) top) in
        omega (arith, off, above, under)

    some_count : count_to I.m (without_costliest I i left) + 1 ≡ count_to I.m left
    some_count =
        let top = costliest_left in
        sym (count_change (without_costliest I i left) left (costliest I i left) top.below costliest_off top.passes (λ c _ ne. others_left c ne))

  -- where nothing is left, nothing is taken off

  module _ (none : (c : ℕ) → c < I.m → left c ≡ false) where
    none_without : (c : ℕ) → c < I.m → without_costliest I i left c ≡ false
    unfolding without_costliest
    none_without c l = and_no_left (not (eqb c (costliest I i left))) (none c l)

    none_cost : sum_where I.m (without_costliest I i left) (cost I i) + max_where I.m left (cost I i) ≡ sum_where I.m left (cost I i)
    none_cost =
        let after = where_none I.m (without_costliest I i left) (cost I i) none_without in
        let before = where_none I.m left (cost I i) none in
        let top = peak_at_most I.m left {b = 0} {f = cost I i} (λ c l p. absurd (clash p (none c l))) in
        omega (arith, after, before, top)

  by_left {ℓ} : {A : Type ℓ} → (Hit I.m left → A) → (((c : ℕ) → c < I.m → left c ≡ false) → A) → A
  by_left some none = by_test (any_below I.m left) (λ e. some (any_elim I.m left e)) (λ e. none (any_none I.m left e))

  -- what is taken off is the greatest cost
  pub taken_cost : sum_where I.m (without_costliest I i left) (cost I i) + max_where I.m left (cost I i) ≡ sum_where I.m left (cost I i)
  taken_cost = by_left some_cost none_cost

  -- and it is one chore
  pub taken_count : count_to I.m (without_costliest I i left) ≡ count_to I.m left - 1
  taken_count =
      by_left (λ some. omega (arith, some_count some))
      (λ none. rw (count_none I.m left none, count_none I.m (without_costliest I i left) (none_without none)))
