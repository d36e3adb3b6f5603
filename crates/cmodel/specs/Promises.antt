-- What each call promises to C. Plain names are what is handed in, primed ones the same memory when the call returns, r what is returned.
use Rattle.std.specs.Prelude.{ℕ, ◌+◌, ◌-◌, ◌*◌, ◌≤◌, ◌<◌, cond, not, List, [], ◌∷◌, Result, Ok, Err, ◌≡◌, eqb, length, get_or, take, drop}
use Rattle.finite.specs.Lists.{tabulate}
use Rattle.model.specs.declared.Refusal.{Refusal}
use Rattle.model.specs.declared.ShareOut.{ShareOut}
use Rattle.model.specs.declared.BookResult.{BookResult}
use Rattle.model.specs.Limits.{max_slack}
use Rattle.model.specs.Instance.{owner_of, price_of}
use Rattle.model.specs.Sheet.{agents_of, chores_of, row_size, row_start, as_marked}
use Rattle.model.specs.Strands.{joined_sheet, strand_of, strand_sheet}
use Rattle.model.specs.Contents.{sheet_count, sheet_start, sheet_size, sheet_of}
use Rattle.model.specs.Record.{Move}
use Rattle.model.specs.Refusals.{◌or_else◌, ◌when◌, sheet_refusal, owners_refusal, prices_refusal, recorded_refusal, join_refusal, show_refusal, measures_refusal, lookup_refusal}
use Rattle.model.specs.RefusalNumbers.{number_of}
use Rattle.model.specs.Replies.{Reply, holds, wasteful, accepted}
use Rattle.model.specs.Verdicts.{unless_refused, price_verdict, list_check}
use Rattle.model.specs.Book.{first_entry}
use Rattle.model.specs.Promises.{HoldsFromOne, Dominating, Allocated, RunMoves, Written, joined_over, MarksShown, Secured, measures_over, entry_at, BookAllocated}
use Rattle.pricebytes.specs.PriceBytes.{prices_in, with_prices}
use Rattle.cmodel.specs.Numbers.{verdict_number, refusal_after, moves_after, cuts_after, first_after, Told}

-- The list check.
pub record ListCheckedInC (s owners : List ℕ) (slack : ℕ) (lent lent' : List ℕ) (r : ℕ) : Type 0 where
  pub answer : r ≡ verdict_number (list_check s owners slack (length lent))
  pub shown : list_check s owners slack (length lent) ≡ wasteful → Dominating s owners lent lent'
  pub kept : (list_check s owners slack (length lent) ≡ wasteful → ⊥) → lent' ≡ lent
  -- "A list that holds at one slack holds at every larger slack"
  pub larger : list_check s owners slack (length lent) ≡ holds → (t : ℕ) → slack ≤ t → t ≤ max_slack → list_check s owners t (length lent) ≡ holds

-- The price check, with the prices as bytes: 10 also for a list that is not of 4 m bytes.
unfoldable pub price_refusal_in_c : List ℕ → List ℕ → List ℕ → ℕ
price_refusal_in_c s owners bytes =
    sheet_refusal s
    or_else owners_refusal (agents_of s) (chores_of s) owners
    or_else 10 when not (eqb (length bytes) (4 * chores_of s))
    or_else prices_refusal (chores_of s) (prices_in bytes)

unfoldable pub price_check_in_c : List ℕ → List ℕ → List ℕ → Reply
price_check_in_c s owners bytes =
    unless_refused (price_refusal_in_c s owners bytes) (price_verdict (as_marked s) (owner_of owners) (price_of (prices_in bytes)))

pub record PricesCheckedInC (s owners prices : List ℕ) (r : ℕ) : Type 0 where
  pub answer : r ≡ verdict_number (price_check_in_c s owners prices)
  -- "An accepted list also holds, whoever proposed the prices.": at every slack of 1 and above
  pub holding : price_check_in_c s owners prices ≡ accepted → HoldsFromOne s owners

-- The share-out. The price list has a fourth as many entries as bytes.
pub record AllocatedInC (s owners prices scratch owners' prices' scratch' : List ℕ) (moves cuts moves' cuts' r : ℕ) : Type 0 where
  -- the promise of the Rattle call, demand 3 in it, on the prices as numbers
  pub answer : Result ShareOut Refusal
  pub numbers : List ℕ
  pub allocated : Allocated s owners (prices_in prices) scratch owners' numbers scratch' answer
  -- the refusal number is returned, and moves and cuts are written where it is 0
  pub told : Told answer moves cuts moves' cuts' r
  -- the bytes of the first m prices are written; the bytes from 4 m on are kept, and all of them with a refusal
  pub bytes : prices' ≡ cond (eqb r 0) (with_prices (chores_of s) numbers prices) prices
  -- demand 3 in bytes: the price check accepts the first m entries of both lists
  pub passes : r ≡ 0 → price_check_in_c s (take (chores_of s) owners') (take (4 * chores_of s) prices') ≡ accepted

-- Everything lent to a refused share-out with a record holds what it held.
pub record NothingWritten (owners prices scratch bytes owners' prices' scratch' bytes' : List ℕ) (moves cuts moves' cuts' : ℕ) : Type 0 where
  pub owners_kept : owners' ≡ owners
  pub prices_kept : prices' ≡ prices
  pub scratch_kept : scratch' ≡ scratch
  pub record_kept : bytes' ≡ bytes
  pub moves_kept : moves' ≡ moves
  pub cuts_kept : cuts' ≡ cuts

-- The share-out with a record of its moves.
pub record RecordedInC (s owners prices scratch bytes owners' prices' scratch' bytes' : List ℕ) (moves cuts moves' cuts' r : ℕ) : Type 0 where
  -- as in `Recorded`
  pub made : List Move
  pub run : sheet_refusal s ≡ 0 → RunMoves s made
  pub answer : r ≡ recorded_refusal s (length owners) (length (prices_in prices)) (length scratch) (length made) (length bytes)
  -- the promise without a record, demand 3 in it, and the moves in the record
  pub not_refused : r ≡ 0 → AllocatedInC s owners prices scratch owners' prices' scratch' moves cuts moves' cuts' r × Written made bytes bytes'
  pub turned_down : (r ≡ 0 → ⊥) → NothingWritten owners prices scratch bytes owners' prices' scratch' bytes' moves cuts moves' cuts'

-- The lookup of a sheet by its number: where its part of the book starts, and its size.
pub record FoundInC (book : List ℕ) (sheet_number start size start' size' r : ℕ) : Type 0 where
  pub answer : r ≡ lookup_refusal book sheet_number
  pub start_at_exit : start' ≡ cond (eqb r 0) (sheet_start book (sheet_number - 1)) start
  pub size_at_exit : size' ≡ cond (eqb r 0) (sheet_size book (sheet_number - 1)) size
  -- "its bytes are handed back as that stretch of the book"
  pub inside : r ≡ 0 → start' + size' ≤ length book
  pub found : r ≡ 0 → take size' (drop start' book) ≡ sheet_of book (sheet_number - 1)

-- Two sheets joined: the size of the joined sheet goes into lent memory.
pub record JoinedInC (first second lent lent' : List ℕ) (written written' r : ℕ) : Type 0 where
  pub answer : r ≡ join_refusal first second (length lent)
  -- "The joined sheet is written at the start of a lent list"; with a refusal all of it keeps its content
  pub at_exit : lent' ≡ joined_over first second lent
  pub written_at_exit : written' ≡ cond (eqb r 0) (length (joined_sheet first second)) written
  -- what was written breaks no rule
  pub taken : r ≡ 0 → sheet_refusal (take written' lent') ≡ 0

-- The marks of a person out of the sheet that holds a chore: which of the two sheets it is, where the row starts there, and its size.
pub record ShownInC (first second : List ℕ) (person chore strand start size strand' start' size' r : ℕ) : Type 0 where
  pub answer : r ≡ show_refusal first second person chore
  pub strand_at_exit : strand' ≡ cond (eqb r 0) (strand_of first chore) strand
  pub start_at_exit : start' ≡ cond (eqb r 0) (row_start (strand_sheet first second chore) (person - 1)) start
  pub size_at_exit : size' ≡ cond (eqb r 0) (row_size (strand_sheet first second chore)) size
  -- "shown out of whichever of the two sheets holds the reel"
  pub inside : r ≡ 0 → start' + size' ≤ length (strand_sheet first second chore)
  pub shown : r ≡ 0 → MarksShown first second person chore r (take size' (drop start' (strand_sheet first second chore)))

-- Everyone's own measure: the numbers of the n agents go into the first entries of a lent list, and with a refusal all of it keeps its content.
pub record MeasuredInC (s lent lent' : List ℕ) (r : ℕ) : Type 0 where
  pub answer : r ≡ measures_refusal s
  pub at_exit : lent' ≡ measures_over s lent
  pub secured : r ≡ 0 → (i : ℕ) → i < agents_of s → Secured (as_marked s) i (get_or lent' i 0)

-- A whole book: `allocate_book(book, owners, prices, scratch)`. The price list has a fourth as many entries as bytes.
pub record BookInBytes (book owners prices scratch owners' prices' scratch' : List ℕ) (answer : Result BookResult Refusal) : Type 0 where
  -- what is promised of a book, demand 3 in it, on the prices as numbers
  pub numbers : List ℕ
  pub allocated : BookAllocated book owners (prices_in prices) scratch owners' numbers scratch' answer
  -- the bytes of the accepted sheets' prices are written; all bytes after them are kept, and all of them with a refusal
  pub bytes : prices' ≡ cond (eqb (number_of answer) 0) (with_prices (first_entry book (sheet_count book)) numbers prices) prices

-- One of the lists of results, which has an entry for each of 16 sheets: entry j as `told` has it of the reply for sheet j.
unfoldable pub results : (Reply → ℕ → ℕ) → Result BookResult Refusal → List ℕ → List ℕ
results told answer before = tabulate (length before) (λ j. told (entry_at answer j) (get_or before j 0))

-- The tally is moves and cuts, and with a refusal its memory keeps what it held.
unfoldable pub tally_after : Result BookResult Refusal → List ℕ → List ℕ
tally_after (Ok book) before = book.tally.moves ∷ book.tally.cuts ∷ []
tally_after (Err refusal) before = before

-- The whole book. Entries of sheets that the book does not have keep what they held, and with a refusal all of them do: their reply is `absent`.
pub record BookAllocatedInC (book owners prices scratch owners' prices' scratch' refusals moves cuts firsts tally refusals' moves' cuts' firsts' tally' : List ℕ) (r : ℕ) : Type 0 where
  pub answer : Result BookResult Refusal
  pub allocated : BookInBytes book owners prices scratch owners' prices' scratch' answer
  pub returned : r ≡ number_of answer
  -- of each sheet its refusal number, or 0 with its moves, cuts and first entry
  pub refusals_at_exit : refusals' ≡ results refusal_after answer refusals
  pub moves_at_exit : moves' ≡ results moves_after answer moves
  pub cuts_at_exit : cuts' ≡ results cuts_after answer cuts
  pub firsts_at_exit : firsts' ≡ results first_after answer firsts
  pub tally_at_exit : tally' ≡ tally_after answer tally
