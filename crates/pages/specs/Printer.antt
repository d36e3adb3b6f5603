-- What the programs print of a book, sheet by sheet. They differ in what an accepted sheet's lines are, and in which sheets they refuse.
use Rattle.std.specs.Prelude.{ℕ, ◌+◌, cond, List, ◌++◌, ◌≡◌, eqb}
use Rattle.finite.specs.Sums.{sum_to}
use Rattle.model.specs.Contents.{sheet_count, sheet_of}
use Rattle.model.specs.Algorithm.{State}
use Rattle.model.specs.Refusals.{sheet_refusal, contents_refusal}
use Rattle.allocation.specs.Final.{final_of}
use Rattle.text.specs.Text.{joined}
use Rattle.text.specs.Lines.{refused_line, book_refused_line, total_line}

pub record Printer : Type 0 where
  -- the number that a sheet is refused with, 0 for an accepted one
  pub refusal : List ℕ → ℕ
  -- the lines of an accepted sheet under its number
  pub lines : List ℕ → ℕ → List ℕ

-- an accepted sheet breaks no rule
abbrev pub Unbroken : Printer → Type 0
Unbroken P = (s : List ℕ) → P.refusal s ≡ 0 → sheet_refusal s ≡ 0

module _ (book : List ℕ) where
  -- so many sheets are printed: none of a refused book
  unfoldable pub to_print : ℕ
  to_print = cond (eqb (contents_refusal book) 0) (sheet_count book) 0

  -- what is printed last: the tally, and of a refused book its number
  unfoldable pub last_text : ℕ → ℕ → List ℕ
  last_text moves cuts = cond (eqb (contents_refusal book) 0) (total_line moves cuts) (book_refused_line (contents_refusal book))

module _ (P : Printer) where
  -- the text of the sheet s
  unfoldable pub text_of : List ℕ → ℕ → List ℕ
  text_of s number = cond (eqb (P.refusal s) 0) (P.lines s number) (refused_line number (P.refusal s))

  -- what it adds to the tally
  unfoldable pub adds_of : (State → ℕ) → List ℕ → ℕ
  adds_of counted s = cond (eqb (P.refusal s) 0) (counted (final_of s)) 0

  module _ (book : List ℕ) where
    -- sheet j, counted from 0 and numbered from 1
    unfoldable pub sheet_text : ℕ → List ℕ
    sheet_text j = text_of (sheet_of book j) (j + 1)

    -- the tally of the first j sheets
    unfoldable pub tally_to : (State → ℕ) → ℕ → ℕ
    tally_to counted j = sum_to j (λ i. adds_of counted (sheet_of book i))

    -- what is printed after the sheets
    unfoldable pub last_of : List ℕ
    last_of = last_text book (tally_to (λ x. x.moves) (to_print book)) (tally_to (λ x. x.cuts) (to_print book))

    -- all that is printed
    unfoldable pub book_text : List ℕ
    book_text = joined sheet_text (to_print book) ++ last_of
