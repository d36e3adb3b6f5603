-- What "refusal 0" of a book's contents means, fact by fact. The laws `fits` and `accepted` say that it means just this.
use Rattle.std.specs.Prelude.{ℕ, ◌+◌, ◌*◌, ◌-◌, ◌≤◌, ◌<◌, List, ◌≡◌, length}
use Rattle.model.specs.Limits.{max_sheets, max_book}
use Rattle.model.specs.Contents.{sheet_count, sheet_start, sheet_end, body_start}

pub record Fits (book : List ℕ) : Type 0 where
  pub some_byte : 0 < length book
  pub bytes_fit : length book ≤ max_book
  pub some_sheet : 0 < sheet_count book
  pub sheets_fit : sheet_count book ≤ max_sheets
  -- the contents are there
  pub contents : 1 + 4 * sheet_count book ≤ length book
  -- each body starts where the one before it ended
  pub starts : (j : ℕ) → j < sheet_count book → sheet_start book j ≡ body_start book j
  -- the last one ends the book
  pub whole : sheet_end book (sheet_count book - 1) ≡ length book

-- the book keeps its rule, and j is one of its sheets
pub record SheetInBook (book : List ℕ) (j : ℕ) : Type 0 where
  pub fits : Fits book
  pub below : j < sheet_count book
