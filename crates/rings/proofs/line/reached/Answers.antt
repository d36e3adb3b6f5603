use mathlib.Core.Path.{ap}
use mathlib.Core.Bool.{not}
use borrow.Author.Tests.{eq-eqb, ne_eqb}
use Rattle.finite.proofs.Bits.{set_skip, set-take}
use Rattle.rings.specs.Line.{is_reached}
use Rattle.rings.proofs.line.reached.Goals as goal
use Rattle.rings.proofs.line.reached.Goals.{else-scratch-i-ne0, then-scratch-i-ne0}

pub loop-i-preserved : goal.loop-i-preserved
unfolding is_reached
loop-i-preserved c =
    elim c.if-scratch-i-ne0.branch [
      | then-scratch-i-ne0 w ↦ rw (w.w-is, w.with-w.ensures) (set-take c.loop-i.invariant (ap not (ne_eqb _ 0 w.if-scratch-i-ne0.true)))
      | else-scratch-i-ne0 w ↦ rw w.w-is (set_skip c.loop-i.invariant (ap not (eq-eqb _ 0 w.if-scratch-i-ne0.false)))
    ]
