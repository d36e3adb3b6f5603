-- What is promised of the texts that are printed, one after the other.
use Rattle.std.specs.Prelude.{ℕ, ◌≤◌, List, Option, Result, ◌≡◌, take}
use Rattle.std.specs.Io.KnownBytes.{Appends}
use Rattle.io.specs.Counts.{IsPrefixLen}
use Rattle.model.specs.declared.Refusal.{Refusal}
use Rattle.model.specs.declared.ShareOut.{ShareOut}
use Rattle.model.specs.declared.Tally.{Tally}
use Rattle.model.specs.Contents.{sheet_of}
use Rattle.tally.specs.Counting.{moves_added, cuts_added}
use Rattle.text.specs.Text.{joined}
use Rattle.pages.specs.Printer.{Printer, to_print, adds_of, sheet_text, tally_to}

-- the line that is printed last takes at most so many bytes
abbrev pub last_most : ℕ
last_most = 59

-- the first r bytes of the buffer are the text
pub record Shows (text out : List ℕ) (r : ℕ) : Type 0 where
  pub counts : IsPrefixLen r out
  pub made : take r out ≡ text

module _ (P : Printer) (book : List ℕ) where
  -- the text of sheet j, and what it adds to the tally
  pub record SheetShown (j : ℕ) (old new : Option (List ℕ)) (answer : Result ShareOut Refusal) : Type 0 where
    pub shows : Appends old new (sheet_text P book j)
    pub moves : moves_added answer ≡ adds_of P (λ x. x.moves) (sheet_of book j)
    pub cuts : cuts_added answer ≡ adds_of P (λ x. x.cuts) (sheet_of book j)

  -- the first j sheets are printed: the loop over the sheets
  pub record Passed (old new : Option (List ℕ)) (total : Tally) (j : ℕ) : Type 0 where
    pub within : j ≤ to_print book
    pub shows : Appends old new (joined (sheet_text P book) j)
    pub moves : total.moves ≡ tally_to P book (λ x. x.moves) j
    pub cuts : total.cuts ≡ tally_to P book (λ x. x.cuts) j
