-- Document 02, request 4: "Small festivals join the sheets of two strands before sharing out." The two sheets, and the one that they make.
use Rattle.std.specs.Prelude.{ℕ, zero, suc, ◌+◌, ◌-◌, ◌/◌, ◌%◌, ◌<◌, Bool, cond, ◌&&◌, List, [], ◌∷◌, ◌++◌, ◌≡◌, eqb, leb, ltb, length, take, drop}
use Rattle.finite.specs.Packed.{bit_at, bytes_for, packed}
use Rattle.model.specs.Sheet.{agents_of, chores_of, easy_weight, difficult_weight, row_of, is_difficult}

-- "The people and both weights must agree"
unfoldable pub agree : List ℕ → List ℕ → Bool
agree first second =
    eqb (agents_of first) (agents_of second)
    && (eqb (easy_weight first) (easy_weight second) && eqb (difficult_weight first) (difficult_weight second))

-- the joined count
unfoldable pub joined_chores : List ℕ → List ℕ → ℕ
joined_chores first second = chores_of first + chores_of second

-- agent i marked chore c of both together difficult: "the second sheet's reels follow the first's"
unfoldable pub joined_mark : List ℕ → List ℕ → ℕ → ℕ → Bool
joined_mark first second i c = cond (ltb c (chores_of first)) (is_difficult first i c) (is_difficult second i (c - chores_of first))

-- agent i's marks, packed anew: the second sheet's follow at the bit, wherever in a byte the first's end
unfoldable pub joined_row : List ℕ → List ℕ → ℕ → List ℕ
joined_row first second i = packed (joined_chores first second) (joined_mark first second i)

-- the rows of the first k agents, "person by person"
unfoldable pub joined_rows : List ℕ → List ℕ → ℕ → List ℕ
joined_rows first second zero = []
joined_rows first second (suc k) = joined_rows first second k ++ joined_row first second k

-- the header: the number of agents, the joined count in two bytes, and the four bytes of both weights as the first sheet has them
unfoldable pub joined_header : List ℕ → List ℕ → List ℕ
joined_header first second =
    agents_of first ∷ joined_chores first second / 256 ∷ joined_chores first second % 256 ∷ take 4 (drop 3 first)

unfoldable pub joined_sheet : List ℕ → List ℕ → List ℕ
joined_sheet first second = joined_header first second ++ joined_rows first second (agents_of first)

-- "whichever of the two sheets holds the reel", by its number on the joined sheet: the first sheet holds the numbers up to its own count
unfoldable pub in_first : List ℕ → ℕ → Bool
in_first first chore = leb chore (chores_of first)

-- that sheet's number, and its bytes
unfoldable pub strand_of : List ℕ → ℕ → ℕ
strand_of first chore = cond (in_first first chore) 1 2

unfoldable pub strand_sheet : List ℕ → List ℕ → ℕ → List ℕ
strand_sheet first second chore = cond (in_first first chore) first second

-- "The marks of a person are shown out of whichever of the two sheets holds the reel."
unfoldable pub strand_marks : List ℕ → List ℕ → ℕ → ℕ → List ℕ
strand_marks first second person chore = row_of (strand_sheet first second chore) (person - 1)

-- the number on the joined sheet, counted from 0, of that sheet's first chore
unfoldable pub strand_begin : List ℕ → ℕ → ℕ
strand_begin first chore = cond (in_first first chore) 0 (chores_of first)

-- the bytes are a row of marks that the joined sheet has for the same person and that strand
pub record OnJoined (first second : List ℕ) (person chore : ℕ) (marks : List ℕ) : Type 0 where
  pub size : length marks ≡ bytes_for (chores_of (strand_sheet first second chore))
  pub mark :
      (c : ℕ) → c < chores_of (strand_sheet first second chore)
      → bit_at marks c ≡ is_difficult (joined_sheet first second) (person - 1) (strand_begin first chore + c)
