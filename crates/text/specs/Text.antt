-- Text as bytes: words, and numbers in decimal.
use Rattle.std.specs.Prelude.{ℕ, zero, suc, ◌+◌, ◌/◌, ◌%◌, cond, List, [], ◌∷◌, ◌++◌, ltb}
use Prim.Native.Char.{code}
use Prim.Native.String as S
use Prim.Native.String.{String}

abbrev pub ascii : String → List ℕ
ascii S.[] = []
ascii (S.◌∷◌ c t) = code c ∷ ascii t

-- the digits of n, the last k of them where it has more
unfoldable pub digits_in : ℕ → ℕ → List ℕ
digits_in zero n = []
digits_in (suc k) n = cond (ltb n 10) ((48 + n) ∷ []) (digits_in k (n / 10) ++ ((48 + n % 10) ∷ []))

-- n in decimal, with no zeros in front: no number has more digits than it counts, but for 0
unfoldable pub decimal : ℕ → List ℕ
decimal n = digits_in (suc n) n

-- a word and a number after it
unfoldable pub field : List ℕ → ℕ → List ℕ
field word n = word ++ decimal n

-- numbers, each after a space
unfoldable pub spaced : List ℕ → List ℕ
spaced [] = []
spaced (x ∷ xs) = field (ascii " ") x ++ spaced xs

abbrev pub newline : List ℕ
newline = 10 ∷ []

-- the first j of some texts, one after the other
unfoldable pub joined : (ℕ → List ℕ) → ℕ → List ℕ
joined texts zero = []
joined texts (suc j) = joined texts j ++ texts j
