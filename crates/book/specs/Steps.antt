-- What the functions over the sheets of a book ask and leave.
use Rattle.std.specs.Prelude.{ℕ, ◌+◌, ◌*◌, ◌≤◌, true, cond, List, Option, None, Result, ◌≡◌, length, replicate}
use Rattle.std.proofs.lemmas.List.Edits.{sets}
use Rattle.model.specs.declared.Refusal.{Refusal}
use Rattle.model.specs.declared.ShareOut.{ShareOut}
use Rattle.model.specs.declared.SheetShare.{SheetShare}
use Rattle.model.specs.declared.BookResult.{BookResult}
use Rattle.model.specs.Limits.{max_chores, scratch_size, max_sheets, book_entries}
use Rattle.model.specs.Sheet.{header_size, chores_of}
use Rattle.model.specs.Contents.{sheet_count}
use Rattle.model.specs.Replies.{share_out_reply}
use Rattle.model.specs.Book.{first_entry}
use Rattle.model.specs.Promises.{BookSharedOut}
use Rattle.contents.specs.Fits.{Fits}
use Rattle.pricebytes.specs.PriceBytes.{prices_in, with_prices}
use Rattle.book.specs.Said.{is_shared}
use Rattle.book.specs.Finals.{owner_bytes, price_bytes, answer_of, written_of}

-- the results before any sheet
abbrev pub no_entries : List (Option (Result SheetShare Refusal))
no_entries = replicate max_sheets None

-- a sheet that was shared out has a header
pub record Answered (s : List ℕ) (out : Result ShareOut Refusal) : Type 0 where
  pub header : is_shared out ≡ true → header_size ≤ length s

-- the entries that a sheet takes
pub record Taken (s : List ℕ) (out : Result ShareOut Refusal) (r : ℕ) : Type 0 where
  pub is : r ≡ cond (is_shared out) (chores_of s) 0

-- from first on there is room for any sheet, and in the numbers for its prices
pub record Room (first : ℕ) (owners prices scratch numbers : List ℕ) : Type 0 where
  pub owners_fit : first + max_chores ≤ length owners
  pub prices_fit : 4 * (first + max_chores) ≤ length prices
  pub scratch_fits : scratch_size ≤ length scratch
  pub numbers_fit : length numbers ≡ max_chores

-- a sheet was shared out over the lists from entry first on
pub record RestShared (s : List ℕ) (first : ℕ) (owners prices scratch owners' prices' scratch' : List ℕ) (out : Result ShareOut Refusal) : Type 0 where
  pub answer : share_out_reply out ≡ answer_of s
  pub owners_after : owners' ≡ sets owners first (written_of owner_bytes s)
  pub prices_after : prices' ≡ sets prices (4 * first) (written_of price_bytes s)
  pub zeros : scratch ≡ replicate (length scratch) 0 → scratch' ≡ scratch

-- the book is not turned down, the scratch is cleared, and the numbers have room for any sheet's prices
pub record Fine (book owners prices scratch numbers : List ℕ) : Type 0 where
  pub fits : Fits book
  pub owners_fit : book_entries ≤ length owners
  pub prices_fit : 4 * book_entries ≤ length prices
  pub scratch_fits : scratch_size ≤ length scratch
  pub cleared : scratch ≡ replicate (length scratch) 0
  pub numbers_fit : length numbers ≡ max_chores

-- `BookInBytes` of a book that is not turned down
pub record SharedInBytes (book owners prices scratch owners' prices' scratch' : List ℕ) (r : BookResult) : Type 0 where
  pub numbers : List ℕ
  pub shared : BookSharedOut book owners (prices_in prices) scratch owners' numbers scratch' r
  pub bytes : prices' ≡ with_prices (first_entry book (sheet_count book)) numbers prices
