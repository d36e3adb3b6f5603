-- What the functions over two strands are given, and the bytes that they make.
use Rattle.std.specs.Prelude.{ℕ, ◌+◌, ◌*◌, ◌-◌, ◌/◌, ◌%◌, ◌^◌, ◌≤◌, Bool, false, cond, List, ◌∷◌, ◌≡◌, ltb, length, get_or}
use Rattle.std.proofs.lemmas.List.Edits.{sets}
use Rattle.finite.specs.Lists.{tabulate}
use Rattle.finite.specs.Packed.{bit_at, bytes_for, packed}
use Rattle.model.specs.Limits.{max_chores}
use Rattle.model.specs.Sheet.{header_size}
use Rattle.model.specs.Strands.{joined_sheet}
use Rattle.sheet.specs.Valid.{Joinable}
use Rattle.sheet.specs.Readers.{Read}

-- both headers are there
pub record Headers (first second : List ℕ) : Type 0 where
  pub of_first : header_size ≤ length first
  pub of_second : header_size ≤ length second

-- two strands that can be joined, and room for the sheet that they make
pub record Room (first second joined : List ℕ) : Type 0 where
  pub joinable : Joinable first second
  pub room : length (joined_sheet first second) ≤ length joined

-- eight bits out of two bytes: they begin so many before the second
abbrev pub moved_byte : ℕ → ℕ → ℕ → ℕ
moved_byte high low shift = (256 * high + low) / 2 ^ shift % 256

-- a row moved to the right by so many bits, as many bytes as it has: the lowest bits of `before` come first
unfoldable pub moved_bytes : ℕ → List ℕ → ℕ → List ℕ
moved_bytes before row shift = tabulate (length row) (λ k. moved_byte (get_or (before ∷ row) k 0) (get_or row k 0) shift)

-- it is written from at on, and r is the last byte: its lowest bits are not written yet
pub record Moved (before : ℕ) (row : List ℕ) (shift : ℕ) (joined : List ℕ) (at : ℕ) (joined' : List ℕ) (r : ℕ) : Type 0 where
  pub made : joined' ≡ sets joined at (moved_bytes before row shift)
  pub last : Read (get_or (before ∷ row) (length row) 0) 256 r

-- the marks of a row of m that come after its last whole byte, as the lowest bits of a byte
abbrev pub seam_bits : List ℕ → ℕ → ℕ
seam_bits row m = get_or row (m / 8) 0 / 2 ^ (8 - m % 8)

-- mark c of two rows, the second's marks after the m of the first
unfoldable pub rows_mark : List ℕ → ℕ → List ℕ → ℕ → Bool
rows_mark row₁ m row₂ c = cond (ltb c m) (bit_at row₁ c) (bit_at row₂ (c - m))

-- the row that two rows of m₁ and m₂ marks make
abbrev pub both_rows : List ℕ → ℕ → List ℕ → ℕ → List ℕ
both_rows row₁ m₁ row₂ m₂ = packed (m₁ + m₂) (rows_mark row₁ m₁ row₂)

-- two such rows, and room from at on for the row that they make
pub record RowsLent (row₁ : List ℕ) (m₁ : ℕ) (row₂ : List ℕ) (m₂ : ℕ) (joined : List ℕ) (at : ℕ) : Type 0 where
  pub long₁ : length row₁ ≡ bytes_for m₁
  pub long₂ : length row₂ ≡ bytes_for m₂
  -- no bit after the second's marks is set
  pub after : (c : ℕ) → m₂ ≤ c → bit_at row₂ c ≡ false
  pub few : m₁ + m₂ ≤ max_chores
  pub room : at + bytes_for (m₁ + m₂) ≤ length joined
