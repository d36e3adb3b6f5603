-- `sheet::set_after` meets its contract: with no chores a row has no bits, and otherwise those after the last mark are the low ones of its last byte.
use Prim.Native.Nat.{◌+◌, ◌*◌, ◌-◌, ◌%◌, ◌^◌, ◌≤◌, ◌<◌}
use mathlib.Core.Path.{◌≡◌, sym}
use native.Mathlib.Omega.{arith}
use lib.ListN.{length}
use lib.Pow.{pow_pos}
use Rattle.finite.proofs.Bits.{shift_one}
use Rattle.finite.specs.Packed.{bytes_for}
use Rattle.model.specs.Sheet.{header_size}
use Rattle.sheet.proofs.Marks.{whole_row, none_after, last_byte_tells}
use Rattle.sheet.proofs.set_after.Goals as goal

pub returns-then-m-eq0 : goal.returns-then-m-eq0
returns-then-m-eq0 c = sym (none_after _ c.if-m-eq0.true)

pub overflow_add-last : goal.overflow_add-last
overflow_add-last c =
    let row_ends : header_size + c.args.i * bytes_for c.args.m + c.row_size-size.result ≤ length c.args.sheet.now = rw c.row_size-size.ensures (whole_row c.requires.whole c.requires.i_lt_n.0) in
    let some_byte : 0 < c.row_size-size.result = omega (arith, c.row_size-size.ensures, c.if-m-eq0.false) in
    omega (arith, row_ends, some_byte, c.row_start.ensures)

pub bounds-sheet-row_start : goal.bounds-sheet-row_start
bounds-sheet-row_start c =
    let row_ends : header_size + c.args.i * bytes_for c.args.m + c.row_size-size.result ≤ length c.args.sheet.now = rw c.row_size-size.ensures (whole_row c.requires.whole c.requires.i_lt_n.0) in
    let some_byte : 0 < c.row_size-size.result = omega (arith, c.row_size-size.ensures, c.if-m-eq0.false) in
    omega (arith, row_ends, c.row_start.ensures, some_byte)

pub nonzero_rem-result : goal.nonzero_rem-result
nonzero_rem-result c =
    let shift_is : 1 * 2 ^ (8 * c.row_size-size.result - c.args.m) % 256 ≡ 2 ^ (8 * c.row_size-size.result - c.args.m) = shift_one {w = 8} (omega (arith, c.row_size-size.ensures)) in
    rw (shift_is) (pow_pos _)

pub returns : goal.returns
returns c =
    let shift_is : 1 * 2 ^ (8 * c.row_size-size.result - c.args.m) % 256 ≡ 2 ^ (8 * c.row_size-size.result - c.args.m) = shift_one {w = 8} (omega (arith, c.row_size-size.ensures)) in
    let pre = c.requires in
    rw (shift_is, c.row_start.ensures, c.row_size-size.ensures) (last_byte_tells pre.whole pre.i_lt_n.0 c.if-m-eq0.false)
