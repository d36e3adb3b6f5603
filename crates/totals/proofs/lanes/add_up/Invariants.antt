-- The chores passed are added up in the lanes.
use Rattle.std.proofs.Common.{◌*◌}
use Rattle.totals.specs.Lanes.{lane_count, Laned}
use Rattle.totals.proofs.lanes.add_up.Given as goal

abbrev pub invariant-loop-k : goal.invariant-loop-k
invariant-loop-k l = Laned (lane_count * l.k) l.owners l.prices l.lanes
