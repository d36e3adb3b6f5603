-- `rings::line::reached` meets its contract. The loop's invariant: the set of those reached among the agents passed.
use Rattle.finite.specs.Bits.{SetOf}
use Rattle.rings.specs.Line.{is_reached}
use Rattle.rings.proofs.line.reached.Given as goal

abbrev pub invariant-loop-i : goal.invariant-loop-i
invariant-loop-i l = SetOf l.i l.w (is_reached l.scratch)
