-- What `why` prints for a book: document 01's text for `shares`, and between the lines of an accepted sheet its run, since "Subtitlers accept
-- a list sooner when they can follow it" (document 02, request 1).
use Rattle.std.specs.Prelude.{ℕ, ◌+◌, ◌<◌, cond, List, ◌++◌, ◌≡◌, eqb, length}
use Rattle.finite.specs.Sums.{sum_to}
use Rattle.model.specs.Sheet.{as_read}
use Rattle.model.specs.Contents.{sheet_count, sheet_of}
use Rattle.model.specs.Algorithm.{State, opening}
use Rattle.model.specs.Record.{Move}
use Rattle.model.specs.Refusals.{◌or_else◌, sheet_refusal, record_refusal, contents_refusal}
use Rattle.model.specs.Promises.{Demand3, RunMoves}
use Rattle.text.specs.Text.{joined}
use Rattle.text.specs.Lines.{sheet_line, opening_line, owners_line, prices_line, refused_line, book_refused_line, total_line}
use Rattle.text.specs.Moves.{move_lines}

-- the bytes of the record that is lent to each share-out, enough for 20,000 moves
abbrev pub record_size : ℕ
record_size = 120000

-- An accepted sheet: "its number with its moves and cuts"; "the opening list"; "for each move, in the order made, the reel, the giver, the
-- receiver, the round and the step"; then "its owners by reel; its prices by reel".
unfoldable pub run_lines : ℕ → ℕ → ℕ → List ℕ → List Move → List ℕ → List ℕ → List ℕ
run_lines number count cuts opened moves owners prices =
    sheet_line number count cuts ++ opening_line opened ++ move_lines moves ++ owners_line owners ++ prices_line prices

-- the number that a sheet is refused with: its own, and then 11, for "A record buffer that the run's moves don't fit"; 0 for an accepted one
unfoldable pub run_refusal : List ℕ → List Move → ℕ
run_refusal s moves = sheet_refusal s or_else record_refusal (length moves) record_size

-- One sheet, which ends in the state `final` after these moves.
module _ (s : List ℕ) (final : State) (moves : List Move) where
  unfoldable pub run_text : ℕ → List ℕ
  run_text number =
      cond (eqb (run_refusal s moves) 0)
      (run_lines number final.moves final.cuts (opening (as_read s)).owners moves final.owners final.prices)
      (refused_line number (run_refusal s moves))

  -- what it adds to the tally
  unfoldable pub adds : (State → ℕ) → ℕ
  adds counted = cond (eqb (run_refusal s moves) 0) (counted final) 0

-- A book. `finals j` is the state in which sheet j, counted from 0, ends, and `moves j` are the moves of its run.
module _ (book : List ℕ) (finals : ℕ → State) (moves : ℕ → List Move) where
  unfoldable pub sheet_text : ℕ → List ℕ
  sheet_text j = run_text (sheet_of book j) (finals j) (moves j) (j + 1)

  -- "The tally of accepted sheets", of the first j
  unfoldable pub tally_to : (State → ℕ) → ℕ → ℕ
  tally_to counted j = sum_to j (λ i. adds (sheet_of book i) (finals i) (moves i) counted)

  -- it "comes last"
  unfoldable pub last_line : List ℕ
  last_line = total_line (tally_to (λ x. x.moves) (sheet_count book)) (tally_to (λ x. x.cuts) (sheet_count book))

  unfoldable pub book_text : List ℕ
  book_text = joined sheet_text (sheet_count book) ++ last_line

-- the final states and the moves are those of the share-outs of the book's sheets
pub record Runs (book : List ℕ) (finals : ℕ → State) (moves : ℕ → List Move) : Type 0 where
  pub demand3 : (j : ℕ) → j < sheet_count book → sheet_refusal (sheet_of book j) ≡ 0 → Demand3 (sheet_of book j) (finals j)
  pub runs : (j : ℕ) → j < sheet_count book → sheet_refusal (sheet_of book j) ≡ 0 → RunMoves (sheet_of book j) (moves j)

-- the text of a book that is not refused
pub record Shown (book text : List ℕ) : Type 0 where
  pub finals : ℕ → State
  pub moves : ℕ → List Move
  pub runs : Runs book finals moves
  pub shows : text ≡ book_text book finals moves

-- the text of any book; "a refused book" prints "only `book refused 9`"
pub record Printed (book text : List ℕ) : Type 0 where
  pub not_refused : contents_refusal book ≡ 0 → Shown book text
  pub turned_down : (contents_refusal book ≡ 0 → ⊥) → text ≡ book_refused_line (contents_refusal book)
