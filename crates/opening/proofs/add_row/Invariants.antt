-- `opening::add_row` meets its contract. The loop's invariant: the marks of the bytes passed are in.
use Rattle.std.proofs.Common.{◌*◌}
use Rattle.opening.specs.Opened.{Marked}
use Rattle.opening.proofs.add_row.Given as goal

abbrev pub invariant-loop-k : goal.invariant-loop-k
invariant-loop-k l = Marked l.sheet l.i (8 * l.k) l.likes
