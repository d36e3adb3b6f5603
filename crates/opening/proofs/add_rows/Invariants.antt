-- `opening::add_rows` meets its contract. The loop's invariant: the rows passed are in.
use Rattle.opening.specs.Opened.{Marked}
use Rattle.opening.proofs.add_rows.Given as goal

abbrev pub invariant-loop-i : goal.invariant-loop-i
invariant-loop-i l = Marked l.sheet l.i 0 l.likes
