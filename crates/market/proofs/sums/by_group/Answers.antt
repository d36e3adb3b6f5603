use Prim.Native.Nat.{ℕ, ◌+◌, ◌^◌}
use mathlib.Core.List.{List}
use mathlib.Core.Path.{◌≡◌, ◌∙◌}
use native.Mathlib.Omega.{arith}
use lib.Bits.{bit_or}
use lib.ListN.{get_or}
use borrow.Author.Tests.{eq-eqb, ne_eqb, lt-ltb, le-ltb}
use Rattle.finite.proofs.Bits.{set_skip, set-take}
use Rattle.market.specs.Market.{group_of, ByGroup}
use Rattle.market.proofs.sums.by_group.Goals as goal
use Rattle.market.proofs.sums.by_group.Goals.{else-group-eq0, then-group-eq0}

-- one agent more, on either side
free_next : {k free grouped : ℕ} {groups : List ℕ} → ByGroup k groups free grouped → get_or groups k 0 ≡ 0 → ByGroup (k + 1) groups (bit_or free (2 ^ k)) grouped
unfolding group_of
free_next {k} {groups = groups} s e =
    record { free_are = set-take s.free_are (eq-eqb (get_or groups k 0) 0 e); grouped_are = set_skip s.grouped_are (le-ltb 0 (get_or groups k 0) (omega arith)) }

grouped_next : {k free grouped : ℕ} {groups : List ℕ} → ByGroup k groups free grouped → (get_or groups k 0 ≡ 0 → ⊥) → ByGroup (k + 1) groups free (bit_or grouped (2 ^ k))
unfolding group_of
grouped_next {k} {groups = groups} s ne =
    record { free_are = set_skip s.free_are (ne_eqb (get_or groups k 0) 0 ne); grouped_are = set-take s.grouped_are (lt-ltb 0 (get_or groups k 0) (omega arith)) }

pub loop-i-preserved : goal.loop-i-preserved
loop-i-preserved c =
    elim c.if-group-eq0.branch [
      | then-group-eq0 w ↦ rw (w.free-is ∙ w.with-free.ensures, w.grouped-is) (free_next c.loop-i.invariant w.if-group-eq0.true)
      | else-group-eq0 w ↦ rw (w.free-is, w.grouped-is ∙ w.with-grouped.ensures) (grouped_next c.loop-i.invariant w.if-group-eq0.false)
    ]
