-- Prices as bytes: "a price takes four bytes, high byte first".
use Rattle.std.specs.Prelude.{ℕ, ◌+◌, ◌*◌, ◌/◌, ◌%◌, ◌≤◌, List, [], ◌∷◌, ◌++◌, length, take, drop}
use Rattle.finite.specs.Lists.{tabulate, word_at}

-- the price at entry c
unfoldable pub price_at : List ℕ → ℕ → ℕ
price_at bytes c = 65536 * word_at bytes (4 * c) + word_at bytes (4 * c + 2)

-- the price list that bytes hold: a fourth as many entries; bytes left over are no price
unfoldable pub prices_in : List ℕ → List ℕ
prices_in bytes = tabulate (length bytes / 4) (price_at bytes)

-- the bytes of a price
abbrev pub four_bytes : ℕ → List ℕ
four_bytes p = p / 16777216 % 256 ∷ p / 65536 % 256 ∷ p / 256 % 256 ∷ p % 256 ∷ []

-- the bytes of a price list
unfoldable pub bytes_of : List ℕ → List ℕ
bytes_of [] = []
bytes_of (p ∷ ps) = four_bytes p ++ bytes_of ps

-- bytes with the first n of the prices written over their beginning; the bytes after that are kept
unfoldable pub with_prices : ℕ → List ℕ → List ℕ → List ℕ
with_prices n prices bytes = bytes_of (take n prices) ++ drop (4 * n) bytes

-- n prices have room in both lists
pub record Room (bytes : List ℕ) (n : ℕ) (prices : List ℕ) : Type 0 where
  pub in_bytes : 4 * n ≤ length bytes
  pub in_prices : n ≤ length prices
