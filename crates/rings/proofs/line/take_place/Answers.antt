-- `rings::line::take_place` meets its contract: the two bytes are apart.
use native.Mathlib.Omega.{arith}
use lib.ListN.{length-set}
use Rattle.rings.proofs.line.take_place.Goals as goal

pub bounds-scratch-end : goal.bounds-scratch-end
bounds-scratch-end c = rw (length-set c.args.scratch.now c.args.i c.args.byte) (omega (arith, c.requires.0, c.requires.1))
