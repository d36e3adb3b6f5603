use Prim.Native.Nat.{◌+◌}
use Rattle.finite.specs.Search.{any_below}
use Rattle.model.specs.Instance.{owner_of}
use Rattle.model.specs.Sheet.{agents_of, as_marked}
use Rattle.waste.specs.Rings.{Spread}
use Rattle.waste.proofs.Rings.{ring_link}
use Rattle.waste.proofs.connected.next_ring.Given as goal

abbrev pub invariant-loop-j : goal.invariant-loop-j
invariant-loop-j l = Spread (agents_of l.sheet) (l.t + 1) (λ i. any_below l.j (ring_link (as_marked l.sheet) (owner_of l.owners) l.initial.distances l.t i)) l.initial.distances l.distances
