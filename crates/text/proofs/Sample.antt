-- Lines as they are to be printed, document 01's own among them, so that a wrong definition of the text is refused here.
-- Assumes nothing.
use mathlib.Core.List.{[], ◌∷◌}
use mathlib.Core.Path.{◌≡◌, refl}
use Rattle.text.specs.Text.{ascii, digits_in, decimal, field, spaced}
use Rattle.text.specs.Lines.{list_line, opening_line, refused_line, book_refused_line}
use Rattle.text.specs.Moves.{numbers_line, move_line, move_lines}

pub a_refused_sheet : refused_line 2 4 ≡ ascii "sheet 2 refused 4\n"
unfolding digits_in decimal field refused_line
a_refused_sheet = refl

pub a_refused_book : book_refused_line 9 ≡ ascii "book refused 9\n"
unfolding digits_in decimal field book_refused_line
a_refused_book = refl

pub zeros_inside : decimal 1002 ≡ ascii "1002"
unfolding digits_in decimal
zeros_inside = refl

pub an_opening : opening_line (1 ∷ 2 ∷ 1 ∷ []) ≡ ascii "opening 1 2 1\n"
unfolding digits_in decimal field spaced list_line opening_line
an_opening = refl

pub no_opening : opening_line [] ≡ ascii "opening\n"
unfolding spaced list_line opening_line
no_opening = refl

-- the first two moves of sheet C
pub two_moves : move_lines (record { chore = 4; giver = 0; receiver = 1; round = 1; step = 2 } ∷ record { chore = 0; giver = 0; receiver = 1; round = 2; step = 2 } ∷ []) ≡ ascii "reel 5 from 1 to 2 round 1 step 2\nreel 1 from 1 to 2 round 2 step 2\n"
unfolding digits_in decimal field numbers_line move_line move_lines
two_moves = refl
