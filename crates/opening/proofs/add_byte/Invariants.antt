-- `opening::add_byte` meets its contract. The loop's invariant: the marks passed are in.
use Rattle.std.proofs.Common.{◌+◌, ◌*◌}
use Rattle.opening.specs.Opened.{Marked}
use Rattle.opening.proofs.add_byte.Given as goal

abbrev pub invariant-loop-j : goal.invariant-loop-j
invariant-loop-j l = Marked l.sheet l.i (8 * l.k + l.j) l.likes
