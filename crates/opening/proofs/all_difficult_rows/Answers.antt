use Rattle.std.proofs.Common.{sym, ◌∙◌}
use Rattle.finite.proofs.Bits.{set-take, set_skip}
use Rattle.opening.proofs.all_difficult_rows.Goals as goal
use Rattle.opening.proofs.all_difficult_rows.Goals.{else-all_difficult, then-all_difficult}

pub loop-i-preserved : goal.loop-i-preserved
loop-i-preserved c =
    let s = c.loop-i.invariant in
    let e = sym c.all_difficult.ensures in
    elim c.if-all_difficult.branch [
      | then-all_difficult w ↦ rw (w.w-is, w.with-w.ensures) (set-take s (e ∙ w.if-all_difficult.true))
      | else-all_difficult w ↦ rw w.w-is (set_skip s (e ∙ w.if-all_difficult.false))
    ]
