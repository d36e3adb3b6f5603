-- `evenness::add_costs` meets its contract. The loop's invariant: the chores passed, whole bytes of them, are added up.
use Prim.Native.Nat.{◌*◌}
use Rattle.finite.specs.Lists.{Table}
use Rattle.model.specs.Limits.{max_agents}
use Rattle.model.specs.Instance.{cost, owner_of}
use Rattle.model.specs.Sheet.{as_marked}
use Rattle.model.specs.Fairness.{total}
use Rattle.evenness.proofs.add_costs.Given as goal

abbrev pub invariant-loop-k : goal.invariant-loop-k
invariant-loop-k l = Table max_agents (total (8 * l.k) (owner_of l.owners) (cost (as_marked l.sheet) l.i)) l.sums
