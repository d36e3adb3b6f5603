-- `sheet::row_byte` meets its contract: the byte lies inside the sheet.
use Prim.Native.Nat.{◌+◌}
use mathlib.Core.Path.{sym}
use native.Mathlib.Omega.{arith}
use Rattle.sheet.proofs.Marks.{in_sheet_lem, byte_is}
use Rattle.sheet.proofs.row_byte.Goals as goal

pub overflow_add-result : goal.overflow_add-result
overflow_add-result c = omega (arith, in_sheet_lem c.requires.row_in_sheet, c.row_start.ensures)

pub bounds-sheet-row_start : goal.bounds-sheet-row_start
bounds-sheet-row_start c = omega (arith, in_sheet_lem c.requires.row_in_sheet, c.row_start.ensures)

pub returns : goal.returns
returns c =
    let pre = c.requires in
    record {
      is = sym (byte_is pre.row_in_sheet c.row_start.result c.args.k c.row_start.ensures pre.k_bound);
      below = (c.type_inv.sheet (c.row_start.result + c.args.k)).fits;
    }
