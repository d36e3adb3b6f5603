-- Document 01, "What `shares` prints": the whole text for a book. `finals j` is the state in which sheet j, counted from 0, ends.
use Rattle.std.specs.Prelude.{ℕ, ◌+◌, ◌<◌, cond, true, List, ◌++◌, ◌≡◌}
use Rattle.model.specs.Contents.{sheet_count, sheet_of}
use Rattle.model.specs.Algorithm.{State}
use Rattle.model.specs.Refusals.{contents_refusal}
use Rattle.model.specs.Book.{own_refusal, takes_sheet, tally_of}
use Rattle.model.specs.Promises.{Demand3}
use Rattle.text.specs.Text.{joined}
use Rattle.text.specs.Lines.{sheet_line, owners_line, prices_line, refused_line, book_refused_line, total_line}

-- "Each accepted sheet prints three lines"
unfoldable pub shared_lines : ℕ → ℕ → ℕ → List ℕ → List ℕ → List ℕ
shared_lines number moves cuts owners prices = sheet_line number moves cuts ++ owners_line owners ++ prices_line prices

module _ (book : List ℕ) (finals : ℕ → State) where
  -- sheet j, which is numbered from 1
  unfoldable pub sheet_text : ℕ → List ℕ
  sheet_text j =
      cond (takes_sheet book j)
      (shared_lines (j + 1) (finals j).moves (finals j).cuts (finals j).owners (finals j).prices)
      (refused_line (j + 1) (own_refusal book j))

  -- the first j sheets
  unfoldable pub sheets_text : ℕ → List ℕ
  sheets_text j = joined sheet_text j

  unfoldable pub book_text : List ℕ
  book_text = sheets_text (sheet_count book) ++ total_line (tally_of book finals (λ x. x.moves)) (tally_of book finals (λ x. x.cuts))

-- the text of a book that is not refused
pub record Shown (book text : List ℕ) : Type 0 where
  pub finals : ℕ → State
  pub demand3 : (j : ℕ) → j < sheet_count book → takes_sheet book j ≡ true → Demand3 (sheet_of book j) (finals j)
  pub shows : text ≡ book_text book finals

-- the text of any book
pub record Printed (book text : List ℕ) : Type 0 where
  pub not_refused : contents_refusal book ≡ 0 → Shown book text
  pub turned_down : (contents_refusal book ≡ 0 → ⊥) → text ≡ book_refused_line (contents_refusal book)
