-- `sheet::difficult_marks` meets its contract. The loop's invariant: how many bits of the bytes passed are set.
use Prim.Native.Nat.{◌*◌}
use mathlib.Core.Path.{◌≡◌}
use Rattle.finite.specs.Sums.{count_to}
use Rattle.finite.specs.Packed.{bit_at}
use Rattle.model.specs.Sheet.{row_of}
use Rattle.sheet.proofs.difficult_marks.Given as goal

abbrev pub invariant-loop-k : goal.invariant-loop-k
invariant-loop-k l = l.count ≡ count_to (8 * l.k) (bit_at (row_of l.sheet l.i))
