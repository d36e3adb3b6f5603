-- `rings::line::ring` meets its contract. The loop's invariant: the set of those at the places passed.
use Prim.Native.Nat.{◌+◌}
use Rattle.finite.specs.Bits.{SetOf}
use Rattle.rings.specs.Line.{stands_at}
use Rattle.rings.proofs.line.ring.Given as goal

abbrev pub invariant-loop-i : goal.invariant-loop-i
invariant-loop-i l = SetOf l.n l.w (stands_at l.scratch l.from (l.from + l.i-index))
