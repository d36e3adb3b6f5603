-- The limits of document 01, and of document 02 where a request moved them, each in one place.
use Rattle.std.specs.Prelude.{ℕ, Bool, ◌||◌, eqb, ltb}

-- "the number of people n, 1 to 32"
abbrev pub max_agents : ℕ
max_agents = 32

-- document 02, request 5: "The reel count becomes two bytes, high byte first, up to 4,000"
abbrev pub max_chores : ℕ
max_chores = 4000

-- "1 ≤ a < b ≤ 1,000"
abbrev pub max_weight : ℕ
max_weight = 1000

-- "a price of 0 or above 1,000,000"
abbrev pub max_price : ℕ
max_price = 1000000

-- document 02, request 7: "Number 8 is given from now on for scratch under 64 bytes"
abbrev pub scratch_size : ℕ
scratch_size = 64

-- "k, the count of sheets, 1 to 16"
abbrev pub max_sheets : ℕ
max_sheets = 16

-- "A book is at most 65,535 bytes"
abbrev pub max_book : ℕ
max_book = 65535

-- document 02, request 5: "A book's long lists need 64,000 entries"
abbrev pub book_entries : ℕ
book_entries = 64000

-- document 02, request 8: "A slack above 8 is refused"
abbrev pub max_slack : ℕ
max_slack = 8

-- 0, or above the limit
abbrev pub out_of_range : ℕ → ℕ → Bool
out_of_range limit k = eqb k 0 || ltb limit k
