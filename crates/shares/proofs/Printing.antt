-- What `shares` prints: the text of a sheet from what its share-out left, and the text of a book from those of its sheets.
-- Assumes nothing.
use Prim.Native.Nat.{ℕ, ◌<◌}
use mathlib.Core.List.{List, ◌++◌}
use mathlib.Core.Path.{◌≡◌, refl, ◌∙◌}
use native.Mathlib.Omega.{arith}
use lib.ListN.{length, take}
use borrow.Author.Tests.{eqb-true}
use Rattle.std.specs.Prelude.{Result}
use Rattle.model.specs.declared.Refusal.{Refusal}
use Rattle.model.specs.declared.ShareOut.{ShareOut}
use Rattle.model.specs.Limits.{max_chores, scratch_size}
use Rattle.model.specs.Sheet.{chores_of}
use Rattle.model.specs.Contents.{sheet_of}
use Rattle.model.specs.Refusals.{sheet_refusal}
use Rattle.model.specs.Book.{own_refusal, takes_sheet, over_accepted, tally_of}
use Rattle.model.specs.Promises.{Allocated}
use Rattle.allocation.specs.Final.{final_of}
use Rattle.allocation.proofs.Accepting.{sheet_decides}
use Rattle.allocation.proofs.Final.{final_demand3}
use Rattle.text.specs.Text.{joined}
use Rattle.pages.specs.Printer as pages
use Rattle.pages.specs.Printer.{to_print, text_of, adds_of, sheet_text, tally_to, last_of}
use Rattle.pages.specs.Answered.{Left, Answered}
use Rattle.pages.proofs.Answering as answering
use Rattle.pages.proofs.Printing as printing
use Rattle.shares.specs.Page as page
use Rattle.shares.specs.Page.{shared_lines, sheets_text, book_text, Printed}
use Rattle.shares.specs.Printing.{printer, unbroken}

-- what `allocate` promises, where lists of enough entries are lent
pub answered : {s owners prices scratch owners' prices' scratch' : List ℕ} {r : Result ShareOut Refusal} → max_chores ≡ length owners → max_chores ≡ length prices → scratch_size ≡ length scratch → length owners' ≡ length owners → length prices' ≡ length prices → Allocated s owners prices scratch owners' prices' scratch' r → Answered printer s owners' prices' r
answered {s} {owners} {prices} {scratch} o p c o' p' A =
    let is = sheet_decides s (length owners) (length prices) (length scratch) (omega arith) (omega arith) (omega arith) in
    answering.answered printer unbroken is A.not_refused A.turned_down (omega arith) (omega arith)

-- the entries of an accepted sheet are cut out of the lists
module _ {s owners prices : List ℕ} {out : ShareOut} {m : ℕ} (L : Left printer s out.moves out.cuts owners prices) (e : m ≡ chores_of s) where
  pub left_text : (number : ℕ) → text_of printer s number ≡ shared_lines number out.moves out.cuts (take m owners) (take m prices)
  left_text number =
      let R = L.ran in
      answering.accepted_text printer s number L.accepted ∙ rw (e, R.count_is, R.cuts_are, R.owners_are, R.prices_are)

-- The texts of the sheets and then the last one are the text of the book.
pub whole_text : (book : List ℕ) (texts : ℕ → List ℕ) (last : List ℕ) → ((j : ℕ) → j < to_print book → texts j ≡ sheet_text printer book j) → last ≡ last_of printer book → Printed book (joined texts (to_print book) ++ last)
unfolding text_of adds_of sheet_text tally_to page.sheet_text sheets_text book_text own_refusal takes_sheet over_accepted tally_of
whole_text book texts last e q =
    record {
      not_refused = λ z.
          record {
            finals = λ j. final_of (sheet_of book j);
            demand3 = λ j l t. final_demand3 (sheet_of book j) (eqb-true (sheet_refusal (sheet_of book j)) 0 t);
            shows = printing.whole_text printer book texts last e q z;
          };
      turned_down = printing.refused_text printer book texts last e q;
    }

-- so what is printed of a book is its text
pub printed : (book : List ℕ) → Printed book (pages.book_text printer book)
unfolding pages.book_text
printed book = whole_text book (sheet_text printer book) (last_of printer book) (λ j l. refl) refl
