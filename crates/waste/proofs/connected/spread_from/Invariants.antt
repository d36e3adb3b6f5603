use Rattle.finite.specs.Search.{any_below}
use Rattle.model.specs.Sheet.{agents_of}
use Rattle.waste.specs.Rings.{Spread}
use Rattle.waste.specs.Tests.{shares}
use Rattle.waste.proofs.connected.spread_from.Given as goal

abbrev pub invariant-loop-c : goal.invariant-loop-c
invariant-loop-c l = Spread (agents_of l.sheet) l.next (λ i. any_below l.c (shares l.sheet l.owners l.j i)) l.initial.distances l.distances
