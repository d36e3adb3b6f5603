-- `evenness::add_byte` meets its contract. The loop's invariant: the chores passed are added up.
use Prim.Native.Nat.{◌+◌}
use Rattle.finite.specs.Lists.{Table}
use Rattle.model.specs.Limits.{max_agents}
use Rattle.model.specs.Instance.{cost, owner_of}
use Rattle.model.specs.Sheet.{as_marked}
use Rattle.model.specs.Fairness.{total}
use Rattle.evenness.proofs.add_byte.Given as goal

abbrev pub invariant-loop-j : goal.invariant-loop-j
invariant-loop-j l = Table max_agents (total (l.first + l.j) (owner_of l.owners) (cost (as_marked l.sheet) l.i)) l.sums
