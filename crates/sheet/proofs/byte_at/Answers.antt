-- `sheet::byte_at` meets its contract: an element of a slice of bytes is below 256.
use mathlib.Core.Path.{refl}
use native.Mathlib.Omega.{arith}
use Rattle.sheet.proofs.byte_at.Goals as goal

pub overflow_cast-result : goal.overflow_cast-result
overflow_cast-result c = omega (arith, c.type_inv.bytes c.args.i)

pub returns : goal.returns
returns c = record { is = refl; below = omega (arith, c.type_inv.bytes c.args.i) }
