-- `sheet::row` meets its contract: the row lies inside the sheet.
use native.Mathlib.Nat.{add-sub_cancel_left}
use native.Mathlib.Omega.{arith}
use Rattle.model.specs.Sheet.{row_of}
use Rattle.sheet.proofs.Marks.{in_sheet_lem}
use Rattle.sheet.proofs.row.Goals as goal

pub overflow_add-end : goal.overflow_add-end
overflow_add-end c = omega (arith, in_sheet_lem c.requires, c.row_size.ensures, c.row_start-start.ensures)

pub slice_bounds-result-end : goal.slice_bounds-result-end
slice_bounds-result-end c = omega (arith, in_sheet_lem c.requires, c.row_size.ensures, c.row_start-start.ensures)

pub returns : goal.returns
unfolding row_of
returns c = rw (add-sub_cancel_left, c.row_size.ensures, c.row_start-start.ensures, c.requires.chores)
