-- `placing::easy_counts` meets its contract. The loop's invariant: the first i agents have their numbers.
use Rattle.placing.specs.Queueing.{EasyCounted}
use Rattle.placing.specs.Sheets.{units_on}
use Rattle.placing.proofs.easy_counts.Given as goal

abbrev pub invariant-loop-i : goal.invariant-loop-i
invariant-loop-i l = EasyCounted (units_on l.sheet) l.i l.counts
