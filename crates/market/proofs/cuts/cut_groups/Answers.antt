use mathlib.Core.Path.{refl, sym, ◌∙◌}
use Rattle.std.proofs.lemmas.List.{set-get_or}
use Rattle.finite.proofs.Rewriting.{rewritten_none, rewritten_set, rewritten_skip}
use Rattle.market.proofs.cuts.cut_groups.Goals as goal
use Rattle.market.proofs.cuts.cut_groups.Goals.{else-has, then-has}

pub loop-i-init : goal.loop-i-init
loop-i-init c = rewritten_none _ _ _

pub loop-i-preserved : goal.loop-i-preserved
loop-i-preserved c =
    elim c.if-has.branch [
      | then-has w ↦ rw w.groups-is (rewritten_set c.loop-i.invariant c.loop-i-test.true (sym c.has.ensures ∙ w.if-has.true) refl)
      | else-has w ↦ rw (w.groups-is, set-get_or) (rewritten_skip c.loop-i.invariant c.loop-i-test.true (sym c.has.ensures ∙ w.if-has.false))
    ]
