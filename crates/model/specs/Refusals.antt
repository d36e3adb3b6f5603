-- Document 01, "Numbers for what is turned down", and document 02: the number of each call's refusal, 0 where it is not turned down.
use Rattle.std.specs.Prelude.{ℕ, ◌+◌, ◌*◌, ◌-◌, ◌%◌, Bool, cond, not, ◌||◌, List, eqb, leb, ltb, length}
use Rattle.finite.specs.Search.{any_below}
use Rattle.finite.specs.Packed.{bit_at, bytes_for}
use Rattle.model.specs.Limits.{max_agents, max_chores, max_weight, max_price, max_slack, scratch_size, book_entries, out_of_range}
use Rattle.model.specs.Sheet.{agents_of, chores_of, easy_weight, difficult_weight, header_size, row_of, sheet_length}
use Rattle.model.specs.Strands.{agree, joined_chores, joined_sheet}
use Rattle.model.specs.Contents.{sheet_count, book_fits}
use Rattle.model.specs.Fairness.{entries_in_range}
use Rattle.model.specs.Record.{move_size}

infixr 25 ◌or_else◌
-- the first refusal, or else the second
unfoldable pub ◌or_else◌ : ℕ → ℕ → ℕ
first or_else second = cond (eqb first 0) second first

infix 30 ◌when◌
-- "A number is returned only under its condition"
abbrev pub ◌when◌ : ℕ → Bool → ℕ
number when condition = cond condition number 0

-- "a is 0, b ≤ a, or b above 1,000"
abbrev pub weights_fault : ℕ → ℕ → Bool
weights_fault a b = eqb a 0 || (leb b a || ltb max_weight b)

-- "bits after the last reel are 0": one of a row of m marks is not
unfoldable pub set_after : ℕ → List ℕ → Bool
set_after m row = any_below (8 * bytes_for m - m) (λ k. bit_at row (m + k))

-- "a set bit after the last reel", in some agent's row
unfoldable pub marks_fault : List ℕ → Bool
marks_fault s = any_below (agents_of s) (λ i. set_after (chores_of s) (row_of s i))

-- what the header's numbers alone decide
unfoldable pub header_refusal : ℕ → ℕ → ℕ → ℕ → ℕ
header_refusal n m a b =
    -- "n is 0 or above 32"
    1 when out_of_range max_agents n
    -- "Number 2 now means more than 4,000 reels"
    or_else 2 when ltb max_chores m
    -- "a is 0, b ≤ a, or b above 1,000"
    or_else 3 when weights_fault a b

-- "Order for a sheet: 5 for fewer than" 7 "bytes, 1, 2, 3, 5, 4"
unfoldable pub sheet_refusal : List ℕ → ℕ
sheet_refusal s =
    -- "5 the new lengths": shorter than the header
    5 when ltb (length s) header_size
    -- 1, 2, 3
    or_else header_refusal (agents_of s) (chores_of s) (easy_weight s) (difficult_weight s)
    -- or its length isn't "7 + n × (m divided by 8, rounded up)"
    or_else 5 when not (eqb (length s) (sheet_length s))
    -- "4 a set bit after the last reel"
    or_else 4 when marks_fault s

-- the list of owners, for n agents and m chores
unfoldable pub owners_refusal : ℕ → ℕ → List ℕ → ℕ
owners_refusal n m owners =
    -- "owner list not of length m"
    6 when not (eqb (length owners) m)
    -- "an owner of 0 or above n"
    or_else 7 when not (entries_in_range n m owners)

-- 10: "price list not of length m, or a price of 0 or above 1,000,000"
unfoldable pub prices_refusal : ℕ → List ℕ → ℕ
prices_refusal m prices = 10 when (not (eqb (length prices) m) || not (entries_in_range max_price m prices))

-- 8: something lent has fewer than the entries needed
unfoldable pub lent_refusal : ℕ → ℕ → ℕ
lent_refusal needed lent = 8 when ltb lent needed

-- the share-out, with the lengths of its lent owner list, price list and scratch
unfoldable pub allocate_refusal : List ℕ → ℕ → ℕ → ℕ → ℕ
allocate_refusal s owners prices scratch =
    sheet_refusal s
    or_else lent_refusal (chores_of s) owners
    or_else lent_refusal (chores_of s) prices
    or_else lent_refusal scratch_size scratch

-- 11: "A record buffer that the run's moves don't fit", with so many moves and so many bytes
unfoldable pub record_refusal : ℕ → ℕ → ℕ
record_refusal moves bytes = 11 when ltb bytes (move_size * moves)

-- the share-out with a record: 11 is "tested after 8"
unfoldable pub recorded_refusal : List ℕ → ℕ → ℕ → ℕ → ℕ → ℕ → ℕ
recorded_refusal s owners prices scratch moves bytes =
    allocate_refusal s owners prices scratch
    or_else record_refusal moves bytes

-- 13: "A slack above 8"
unfoldable pub slack_refusal : ℕ → ℕ
slack_refusal slack = 13 when ltb max_slack slack

-- the list check, with its slack and the length of the list lent for a dominating one: 13 comes "after all the others"
unfoldable pub list_refusal : List ℕ → List ℕ → ℕ → ℕ → ℕ
list_refusal s owners slack lent =
    sheet_refusal s
    or_else owners_refusal (agents_of s) (chores_of s) owners
    or_else lent_refusal (chores_of s) lent
    or_else slack_refusal slack

-- the price check
unfoldable pub price_refusal : List ℕ → List ℕ → List ℕ → ℕ
price_refusal s owners prices =
    sheet_refusal s
    or_else owners_refusal (agents_of s) (chores_of s) owners
    or_else prices_refusal (chores_of s) prices

-- two strands: "The second sheet is examined after the first, sheets whose people or weights differ are refused with 12, and a joined count
-- above the limit is refused with 2 after that."
unfoldable pub strands_refusal : List ℕ → List ℕ → ℕ
strands_refusal first second =
    sheet_refusal first
    or_else sheet_refusal second
    or_else 12 when not (agree first second)
    or_else 2 when ltb max_chores (joined_chores first second)

-- joining them, with the length of the lent list, "which is refused with 8 last if it is too short"
unfoldable pub join_refusal : List ℕ → List ℕ → ℕ → ℕ
join_refusal first second lent =
    strands_refusal first second
    or_else lent_refusal (length (joined_sheet first second)) lent

-- "Showing marks for a person or reel that isn't there is refused with 9, after 2."
unfoldable pub show_refusal : List ℕ → List ℕ → ℕ → ℕ → ℕ
show_refusal first second person chore =
    strands_refusal first second
    or_else 9 when out_of_range (agents_of first) person
    or_else 9 when out_of_range (joined_chores first second) chore

-- 14: "A sheet whose b isn't a multiple of a"
unfoldable pub multiple_refusal : ℕ → ℕ → ℕ
multiple_refusal a b = 14 when not (eqb (b % a) 0)

-- everyone's own measure: 14 comes "after the sheet's own checks"
unfoldable pub measures_refusal : List ℕ → ℕ
measures_refusal s =
    sheet_refusal s
    or_else multiple_refusal (easy_weight s) (difficult_weight s)

-- a list that respects the measures, with the length of the lent list: "8 is tested after 14."
unfoldable pub measured_list_refusal : List ℕ → ℕ → ℕ
measured_list_refusal s lent =
    measures_refusal s
    or_else lent_refusal (chores_of s) lent

-- 9: "a book of no bytes or over 65,535, k out of range, or contents against the book's rule"
unfoldable pub contents_refusal : List ℕ → ℕ
contents_refusal book = 9 when not (book_fits book)

-- 9 too: "a lookup of sheet 0 or above k"
unfoldable pub lookup_refusal : List ℕ → ℕ → ℕ
lookup_refusal book number =
    contents_refusal book
    or_else 9 when out_of_range (sheet_count book) number

-- "For a book: 9, then 8"
unfoldable pub book_refusal : List ℕ → ℕ → ℕ → ℕ → ℕ
book_refusal book owners prices scratch =
    contents_refusal book
    or_else lent_refusal book_entries owners
    or_else lent_refusal book_entries prices
    or_else lent_refusal scratch_size scratch
