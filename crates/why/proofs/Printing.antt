-- What `why` prints: the text of a book from those of its sheets.
-- Assumes nothing.
use Prim.Native.Nat.{ℕ, ◌<◌}
use mathlib.Core.List.{List, ◌++◌}
use mathlib.Core.Path.{◌≡◌, refl}
use Rattle.model.specs.Contents.{sheet_of}
use Rattle.model.specs.Algorithm.{State}
use Rattle.model.specs.Record.{Move}
use Rattle.algorithm.proofs.RunMoves.{run_of}
use Rattle.allocation.specs.Final.{final_of}
use Rattle.allocation.proofs.Final.{final_demand3}
use Rattle.recorded.specs.Moves.{moves_for}
use Rattle.text.specs.Text.{joined}
use Rattle.pages.specs.Printer as pages
use Rattle.pages.specs.Printer.{to_print, text_of, adds_of, sheet_text, tally_to, last_of}
use Rattle.pages.proofs.Printing as printing
use Rattle.why.specs.Page as page
use Rattle.why.specs.Page.{run_text, adds, last_line, book_text, Runs, Printed}
use Rattle.why.specs.Told.{printer}

module _ (book : List ℕ) where
  abbrev finals : ℕ → State
  finals j = final_of (sheet_of book j)

  abbrev moves : ℕ → List Move
  moves j = moves_for (sheet_of book j)

  -- the final states and the moves that the contracts speak of are those of the share-outs
  pub runs_of : Runs book finals moves
  unfolding moves_for
  runs_of = record { demand3 = λ j l z. final_demand3 (sheet_of book j) z; runs = λ j l z. run_of (sheet_of book j) z }

  -- The texts of the sheets and then the last one are the text of the book.
  pub whole_text : (texts : ℕ → List ℕ) (last : List ℕ) → ((j : ℕ) → j < to_print book → texts j ≡ sheet_text printer book j) → last ≡ last_of printer book → Printed book (joined texts (to_print book) ++ last)
  unfolding text_of adds_of sheet_text tally_to run_text adds page.sheet_text page.tally_to last_line book_text
  whole_text texts last e q =
      record {
        not_refused = λ z. record { finals = finals; moves = moves; runs = runs_of; shows = printing.whole_text printer book texts last e q z };
        turned_down = printing.refused_text printer book texts last e q;
      }

  -- so what is printed of a book is its text
  pub printed : Printed book (pages.book_text printer book)
  unfolding pages.book_text
  printed = whole_text (sheet_text printer book) (last_of printer book) (λ j l. refl) refl
