-- `sheet::row_start` meets its contract: no product of so few rows and bytes wraps.
use Prim.Native.Nat.{◌*◌, ◌≤◌}
use native.Mathlib.Nat.{mul-le-mul}
use native.Mathlib.Omega.{arith}
use Rattle.sheet.proofs.row_start.Goals as goal

pub overflow_mul-result : goal.overflow_mul-result
overflow_mul-result c =
    let few_bytes : c.args.i * c.row_size.result ≤ 256 * 8192 = let rows : c.args.i ≤ 256 = omega arith in
    let bytes : c.row_size.result ≤ 8192 = omega (arith, c.row_size.ensures) in
    mul-le-mul rows bytes in
    omega (arith, few_bytes)

pub overflow_add-result : goal.overflow_add-result
overflow_add-result c =
    let few_bytes : c.args.i * c.row_size.result ≤ 256 * 8192 = let rows : c.args.i ≤ 256 = omega arith in
    let bytes : c.row_size.result ≤ 8192 = omega (arith, c.row_size.ensures) in
    mul-le-mul rows bytes in
    omega (arith, few_bytes)

pub returns : goal.returns
returns c = rw c.row_size.ensures
