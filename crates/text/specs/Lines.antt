-- The lines that the programs print. Document 01, "What `shares` prints".
use Rattle.std.specs.Prelude.{ℕ, List, ◌++◌}
use Rattle.text.specs.Text.{ascii, field, spaced, newline}

-- "its number with its moves and cuts"
unfoldable pub sheet_line : ℕ → ℕ → ℕ → List ℕ
sheet_line number moves cuts = field (ascii "sheet ") number ++ field (ascii " moves ") moves ++ field (ascii " cuts ") cuts ++ newline

-- a word with a list of numbers after it; the word stands alone where there are none
unfoldable pub list_line : List ℕ → List ℕ → List ℕ
list_line word xs = word ++ spaced xs ++ newline

-- "its owners by reel; its prices by reel"; "With m = 0, `owners` and `prices` stand alone on their lines."
unfoldable pub owners_line : List ℕ → List ℕ
owners_line owners = list_line (ascii "owners") owners

unfoldable pub prices_line : List ℕ → List ℕ
prices_line prices = list_line (ascii "prices") prices

-- document 02: "the opening list", in the same way
unfoldable pub opening_line : List ℕ → List ℕ
opening_line owners = list_line (ascii "opening") owners

-- "A refused sheet prints one line, as `sheet 2 refused 4`"
unfoldable pub refused_line : ℕ → ℕ → List ℕ
refused_line number refusal = field (ascii "sheet ") number ++ field (ascii " refused ") refusal ++ newline

-- "a refused book only `book refused 9`"
unfoldable pub book_refused_line : ℕ → List ℕ
book_refused_line refusal = field (ascii "book refused ") refusal ++ newline

-- "The tally of accepted sheets comes last."
unfoldable pub total_line : ℕ → ℕ → List ℕ
total_line moves cuts = field (ascii "total moves ") moves ++ field (ascii " cuts ") cuts ++ newline
