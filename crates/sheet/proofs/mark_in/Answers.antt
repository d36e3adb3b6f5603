-- `sheet::mark_in` meets its contract: the shift takes the mark's bit down.
use Prim.Native.Nat.{◌-◌}
use mathlib.Core.Path.{sym}
use Rattle.finite.proofs.Packed.{bit_digit}
use Rattle.sheet.proofs.mark_in.Goals as goal

pub returns : goal.returns
returns c = sym (bit_digit c.args.byte (7 - c.args.j))
