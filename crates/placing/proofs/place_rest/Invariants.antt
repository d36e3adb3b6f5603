-- `placing::place_rest` meets its contract. The loop's invariant: the first c chores have owners, and for each of the others there is one or a place.
use Rattle.placing.specs.Filling.{PlacedTo}
use Rattle.placing.specs.Sheets.{units_on}
use Rattle.placing.proofs.place_rest.Given as goal

abbrev pub invariant-loop-c : goal.invariant-loop-c
invariant-loop-c l = PlacedTo (units_on l.sheet) l.c l.initial.places l.initial.owners l.places l.owners
