use Rattle.model.specs.Instance.{owner_of}
use Rattle.model.specs.Sheet.{as_marked}
use Rattle.waste.specs.Rings.{Rings}
use Rattle.waste.proofs.connected.find_distances.Given as goal

abbrev pub invariant-loop-t : goal.invariant-loop-t
invariant-loop-t l = Rings (as_marked l.sheet) (owner_of l.owners) l.t l.distances
