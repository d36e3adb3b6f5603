use lib.ListN.{get_or}
use Rattle.waste.specs.Walk.{OnTheWay}
use Rattle.waste.proofs.walk.write_dominating.Given as goal

abbrev pub invariant-loop-h : goal.invariant-loop-h
invariant-loop-h l = OnTheWay l.sheet l.owners l.distances l.fn.list l.list l.c l.h

abbrev pub decreases-loop-h : goal.decreases-loop-h
decreases-loop-h l = get_or l.distances l.h 0
