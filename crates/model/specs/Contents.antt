-- Document 01, "The book": its contents, and the bytes of one sheet.
use Rattle.std.specs.Prelude.{ℕ, ◌+◌, ◌*◌, ◌-◌, Bool, cond, not, ◌&&◌, List, eqb, leb, length, get_or, take, drop}
use Rattle.finite.specs.Search.{all_below}
use Rattle.finite.specs.Lists.{word_at}
use Rattle.model.specs.Limits.{max_sheets, max_book, out_of_range}

-- "one byte k, the count of sheets"
unfoldable pub sheet_count : List ℕ → ℕ
sheet_count book = get_or book 0 0

-- "then k entries of a start and a length, two bytes each, high byte first": the start of sheet j, counted from 0
unfoldable pub sheet_start : List ℕ → ℕ → ℕ
sheet_start book j = word_at book (1 + 4 * j)

-- .. and its length
unfoldable pub sheet_size : List ℕ → ℕ → ℕ
sheet_size book j = word_at book (3 + 4 * j)

-- where sheet j ends
unfoldable pub sheet_end : List ℕ → ℕ → ℕ
sheet_end book j = sheet_start book j + sheet_size book j

-- "The first body starts at 1 + 4 × k, each further one where the last ended": where the body before sheet j ended
unfoldable pub body_start : List ℕ → ℕ → ℕ
body_start book j = cond (eqb j 0) (1 + 4 * sheet_count book) (sheet_end book (j - 1))

-- "a book of no bytes or over 65,535, k out of range, or contents against the book's rule": none of these
unfoldable pub book_fits : List ℕ → Bool
book_fits book =
    not (out_of_range max_book (length book))
    && (not (out_of_range max_sheets (sheet_count book))
    && (leb (1 + 4 * sheet_count book) (length book)
    && (all_below (sheet_count book) (λ j. eqb (sheet_start book j) (body_start book j))
    && eqb (sheet_end book (sheet_count book - 1)) (length book))))

-- "its bytes are handed back as that stretch of the book": sheet j, counted from 0
unfoldable pub sheet_of : List ℕ → ℕ → List ℕ
sheet_of book j = take (sheet_size book j) (drop (sheet_start book j) book)
