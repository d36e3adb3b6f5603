-- The chores passed are added up.
use Rattle.totals.specs.Totals.{Added}
use Rattle.totals.proofs.sum_up.Given as goal

abbrev pub invariant-loop-c : goal.invariant-loop-c
invariant-loop-c l = Added l.c l.owners l.prices l.sums l.ups
