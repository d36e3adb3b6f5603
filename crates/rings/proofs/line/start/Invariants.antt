-- `rings::line::start` meets its contract. The loop's invariant: the line of those of least sum among the agents passed.
use Rattle.rings.specs.Line.{Started}
use Rattle.rings.proofs.line.start.Given as goal

abbrev pub invariant-loop-i : goal.invariant-loop-i
invariant-loop-i l = Started l.i l.sums l.least l.initial.scratch l.scratch l.end
