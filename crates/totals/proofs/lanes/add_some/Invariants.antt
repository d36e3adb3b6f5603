-- The chores passed are added up in the lanes.
use Rattle.std.proofs.Common.{◌+◌}
use Rattle.totals.specs.Lanes.{Laned}
use Rattle.totals.proofs.lanes.add_some.Given as goal

abbrev pub invariant-loop-q : goal.invariant-loop-q
invariant-loop-q l = Laned (l.from + l.q) l.owners l.prices l.lanes
