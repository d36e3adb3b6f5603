-- Document 01's own lines, so that a wrong definition of the text is refused here.
-- Assumes nothing.
use mathlib.Core.List.{[], ◌∷◌, ◌++◌}
use mathlib.Core.Path.{◌≡◌, refl}
use Rattle.text.specs.Text.{ascii, digits_in, decimal, field, spaced}
use Rattle.text.specs.Lines.{sheet_line, list_line, owners_line, prices_line, total_line}
use Rattle.shares.specs.Page.{shared_lines}

-- "For a book that holds only sheet C"
pub sheet_c_lem : shared_lines 1 3 1 (2 ∷ 2 ∷ 1 ∷ 1 ∷ 2 ∷ []) (3 ∷ 3 ∷ 3 ∷ 3 ∷ 1 ∷ []) ++ total_line 3 1 ≡ ascii "sheet 1 moves 3 cuts 1\nowners 2 2 1 1 2\nprices 3 3 3 3 1\ntotal moves 3 cuts 1\n"
unfolding digits_in decimal field spaced sheet_line list_line owners_line prices_line shared_lines total_line
sheet_c_lem = refl

pub no_chores : shared_lines 16 0 0 [] [] ≡ ascii "sheet 16 moves 0 cuts 0\nowners\nprices\n"
unfolding digits_in decimal field spaced sheet_line list_line owners_line prices_line shared_lines
no_chores = refl
