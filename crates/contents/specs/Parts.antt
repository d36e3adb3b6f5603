-- The parts of `book_fits` that have a function of their own.
use Rattle.std.specs.Prelude.{ℕ, ◌+◌, ◌*◌, ◌-◌, ◌≤◌, ◌<◌, Bool, ◌&&◌, List, ◌≡◌, eqb, length}
use Rattle.finite.specs.Search.{all_below}
use Rattle.model.specs.Contents.{sheet_count, sheet_start, sheet_end, body_start}

-- each of the first j bodies starts where the one before it ended
unfoldable pub starts_fit : List ℕ → ℕ → Bool
starts_fit book j = all_below j (λ i. eqb (sheet_start book i) (body_start book i))

-- so do all k, and the last one ends the book
abbrev pub bodies_fit : List ℕ → ℕ → Bool
bodies_fit book k = starts_fit book k && eqb (sheet_end book (k - 1)) (length book)

-- the book has the contents of its k sheets, of which there is one or more
pub record Contents (book : List ℕ) (k : ℕ) : Type 0 where
  pub count : k ≡ sheet_count book
  pub some : 0 < k
  pub inside : 1 + 4 * k ≤ length book
