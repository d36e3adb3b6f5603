use Rattle.std.proofs.Common.{◌+◌, ◌≡◌, ◌<◌, length, arith}
use Rattle.totals.proofs.Laning.{lane_fits, laned_next}
use Rattle.totals.proofs.lanes.add_some.Goals as goal

pub overflow_add-lanes-in-loop-q-2 : goal.overflow_add-lanes-in-loop-q-2
overflow_add-lanes-in-loop-q-2 c =
    let there : c.args.from + c.loop-q.q < length c.args.owners.now = omega arith in
    record { fits = lane_fits c.requires.held there c.loop-q.invariant (omega arith) }

pub loop-q-preserved : goal.loop-q-preserved
loop-q-preserved c =
    let there : c.args.from + c.loop-q.q < length c.args.owners.now = omega arith in
    let next : c.args.from + (c.loop-q.q + 1) ≡ c.args.from + c.loop-q.q + 1 = omega arith in
    rw next (laned_next c.requires.held there c.loop-q.invariant (omega arith))
