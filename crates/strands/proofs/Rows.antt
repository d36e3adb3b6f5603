-- The joined row of two: bit by bit the first's marks, the second's moved to where they end, and nothing after the last; and its parts, as code
-- writes them.
-- Assumes nothing.
use Prim.Native.Nat.{ℕ, zero, suc, ◌+◌, ◌*◌, ◌-◌, ◌/◌, ◌%◌, ◌^◌, ◌≤◌, ◌<◌}
use mathlib.Core.Bool.{Bool, false, ◌&&◌}
use mathlib.Core.List.{List, ◌∷◌}
use mathlib.Core.Path.{◌≡◌, refl, sym, ap, ◌∙◌}
use native.Mathlib.Nat.{le_refl, zero-add, zero-div}
use native.Mathlib.Omega.{arith}
use lib.Dec.{ltb}
use lib.ListN.{length, take, get_or, set, get_or-eq_default}
use lib.Pow.{shr_le}
use lib.Seq.{sets, length-take-le, get_or-take}
use borrow.Author.Tests.{lt-ltb, le-ltb}
use Rattle.finite.specs.Bits.{bit}
use Rattle.finite.specs.Packed.{bit_at, bytes_for, packed_byte, packed}
use Rattle.finite.proofs.Below.{by_less}
use Rattle.finite.proofs.Bits.{bit_zero}
use Rattle.finite.proofs.Lists.{tab_at}
use Rattle.finite.proofs.Packed.{bit_in_byte, byte_packs, packed_long}
use Rattle.finite.proofs.Shifts.{bit_shr, pair_high, pair_low}
use Rattle.model.specs.Sheet.{chores_of, row_size, row_of, is_difficult}
use Rattle.model.specs.Strands.{joined_chores, joined_mark, joined_row}
use Rattle.sheet.specs.Readers.{Read, RowInSheet}
use Rattle.sheet.proofs.Marks.{row_long}
use Rattle.strands.specs.Parts.{moved_byte, moved_bytes, Moved, seam_bits, rows_mark, both_rows, RowsLent}
use Rattle.strands.proofs.Filling.{Filling, fill_zero, fill_more, fill_next, fill_end, moved_long, moved_at}

-- r is byte k of some bits
record ByteOf (t : ℕ → Bool) (k r : ℕ) : Type 0 where
  below : r < 256
  bits : (j : ℕ) → j < 8 → bit r (7 - j) ≡ t (8 * k + j)

-- two rows, the second's marks after the m of the first
module _ (row₁ : List ℕ) (m : ℕ) (row₂ : List ℕ) where
  -- a mark on either side of the seam
  mark_before : {c : ℕ} → c < m → rows_mark row₁ m row₂ c ≡ bit_at row₁ c
  unfolding rows_mark
  mark_before {c} l = rw (lt-ltb c m l)

  mark_after : {c : ℕ} (d : ℕ) → c ≡ m + d → rows_mark row₁ m row₂ c ≡ bit_at row₂ d
  unfolding rows_mark
  mark_after {c} d e = let rest : c - m ≡ d = omega arith in rw (le-ltb c m (omega arith), rest)

  -- a whole byte of the first's
  whole_byte : (k : ℕ) → k < m / 8 → get_or row₁ k 0 < 256 → ByteOf (rows_mark row₁ m row₂) k (get_or row₁ k 0)
  whole_byte k l small =
      record {
        below = small;
        bits = λ j h. sym (mark_before (omega arith) ∙ bit_in_byte row₁ k j h);
      }

  -- the bits of a moved byte that lie in the one before it: the first's last, or the second's
  from_high : (k j high : ℕ) → high ≡ get_or (seam_bits row₁ m ∷ row₂) k 0 → j < m % 8 → bit high (7 - (8 + j - m % 8)) ≡ rows_mark row₁ m row₂ (8 * (m / 8 + k) + j)
  from_high zero j high e h =
      let none : 8 * (m / 8 + 0) + j ≡ 8 * (m / 8) + j = omega arith in
      let place : 8 - m % 8 + (7 - (8 + j - m % 8)) ≡ 7 - j = omega arith in
      ap (λ x. bit x (7 - (8 + j - m % 8))) e
      ∙ bit_shr (get_or row₁ (m / 8) 0) (8 - m % 8) (7 - (8 + j - m % 8))
      ∙ ap (bit (get_or row₁ (m / 8) 0)) place
      ∙ sym (ap (rows_mark row₁ m row₂) none ∙ mark_before (omega arith) ∙ bit_in_byte row₁ (m / 8) j (omega arith))
  from_high (suc k) j high e h =
      ap (λ x. bit x (7 - (8 + j - m % 8))) e
      ∙ sym (mark_after (8 * k + (8 + j - m % 8)) (omega arith) ∙ bit_in_byte row₂ k (8 + j - m % 8) (omega arith))

  moved_bits : (k high low : ℕ) → high ≡ get_or (seam_bits row₁ m ∷ row₂) k 0 → low ≡ get_or row₂ k 0 → low < 256 → ByteOf (rows_mark row₁ m row₂) (m / 8 + k) (moved_byte high low (m % 8))
  moved_bits k high low e f small =
      record {
        below = omega arith;
        bits = λ j h.
            by_less j (m % 8)
            (λ l. pair_high high low (m % 8) j small h (omega arith) l ∙ from_high k j high e l)
            (λ l.
            pair_low high low (m % 8) j small h l
            ∙ ap (λ x. bit x (7 - (j - m % 8))) f
            ∙ sym (mark_after (8 * k + (j - m % 8)) (omega arith) ∙ bit_in_byte row₂ k (j - m % 8) (omega arith)));
      }

-- the bits before the seam, as read

pub seam_none : (row : List ℕ) (m : ℕ) → length row ≡ bytes_for m → m % 8 ≡ 0 → Read (seam_bits row m) 256 0
seam_none row m long e =
    let none : get_or row (m / 8) 0 ≡ 0 = get_or-eq_default row 0 (omega arith) in
    record { is = sym (ap (λ x. x / 2 ^ (8 - m % 8)) none ∙ zero-div (2 ^ (8 - m % 8))); below = omega arith }

pub seam_read : {r : ℕ} (row : List ℕ) (m : ℕ) → Read (get_or row (m / 8) 0) 256 r → Read (seam_bits row m) 256 (r / 2 ^ (8 - m % 8))
seam_read {r} row m R =
    record { is = ap (λ x. x / 2 ^ (8 - m % 8)) R.is; below = omega (arith, shr_le r (8 - m % 8), R.below) }

-- .. as the joined row has them, with nothing after the last
module _ {row₁ row₂ joined : List ℕ} {m₁ m₂ at : ℕ} (L : RowsLent row₁ m₁ row₂ m₂ joined at) where
  no_more : (c : ℕ) → rows_mark row₁ m₁ row₂ c ≡ (ltb c (m₁ + m₂) && rows_mark row₁ m₁ row₂ c)
  no_more c =
      by_less c (m₁ + m₂)
      (λ l. rw (lt-ltb c (m₁ + m₂) l))
      (λ l. rw (le-ltb c (m₁ + m₂) l) (mark_after row₁ m₁ row₂ (c - m₁) (omega arith) ∙ L.after (c - m₁) (omega arith)))

  both_byte : {k r : ℕ} → k < bytes_for (m₁ + m₂) → ByteOf (rows_mark row₁ m₁ row₂) k r → r ≡ get_or (both_rows row₁ m₁ row₂ m₂) k 0
  unfolding packed packed_byte
  both_byte {k} {r} l B =
      let t = rows_mark row₁ m₁ row₂ in
      byte_packs r (λ j. ltb (8 * k + j) (m₁ + m₂) && t (8 * k + j)) B.below (λ j h. B.bits j h ∙ no_more (8 * k + j))
      ∙ sym (tab_at (packed_byte (m₁ + m₂) t) k 0 l)

  both_whole : (k : ℕ) → k < m₁ / 8 → get_or row₁ k 0 < 256 → get_or row₁ k 0 ≡ get_or (both_rows row₁ m₁ row₂ m₂) k 0
  both_whole k l small = both_byte (omega arith) (whole_byte row₁ m₁ row₂ k l small)

  both_moved : (k high low : ℕ) → m₁ / 8 + k < bytes_for (m₁ + m₂) → high ≡ get_or (seam_bits row₁ m₁ ∷ row₂) k 0 → low ≡ get_or row₂ k 0 → low < 256 → moved_byte high low (m₁ % 8) ≡ get_or (both_rows row₁ m₁ row₂ m₂) (m₁ / 8 + k) 0
  both_moved k high low l e f small = both_byte l (moved_bits row₁ m₁ row₂ k high low e f small)

-- an agent's row, out of two

module _ {row₁ row₂ joined : List ℕ} {m₁ m₂ at : ℕ} (L : RowsLent row₁ m₁ row₂ m₂ joined at) where
  both_long : length (both_rows row₁ m₁ row₂ m₂) ≡ bytes_for (m₁ + m₂)
  both_long = packed_long (m₁ + m₂) (rows_mark row₁ m₁ row₂)

  -- the first's whole bytes are copied
  pub row_copied : {joined' : List ℕ} → ((k : ℕ) → get_or row₁ k 0 < 256) → joined' ≡ sets joined at (take (m₁ / 8) row₁) → Filling (both_rows row₁ m₁ row₂ m₂) joined at joined' (m₁ / 8)
  row_copied small copied =
      let size : length (take (m₁ / 8) row₁) ≡ m₁ / 8 = length-take-le (m₁ / 8) row₁ (omega (arith, L.long₁)) in
      fill_more (fill_zero (both_rows row₁ m₁ row₂ m₂) joined at) (take (m₁ / 8) row₁) (omega arith) (omega arith) (omega (arith, both_long))
      (λ i l.
      let whole : i < m₁ / 8 = omega arith in
      get_or-take (m₁ / 8) row₁ i 0 whole ∙ both_whole L i whole (small i) ∙ ap (λ k. get_or (both_rows row₁ m₁ row₂ m₂) k 0) (sym (zero-add i)))
      copied

  -- the second's are moved to the seam
  module _ {joined₁ joined₂ : List ℕ} {seam last : ℕ} (M : Moved seam row₂ (m₁ % 8) joined₁ (at + m₁ / 8) joined₂ last) (e : seam ≡ seam_bits row₁ m₁) where
    pub row_moved : ((k : ℕ) → get_or row₂ k 0 < 256) → Filling (both_rows row₁ m₁ row₂ m₂) joined at joined₁ (m₁ / 8) → Filling (both_rows row₁ m₁ row₂ m₂) joined at joined₂ (m₁ / 8 + length row₂)
    row_moved small F =
        let size = moved_long seam row₂ (m₁ % 8) in
        fill_more F (moved_bytes seam row₂ (m₁ % 8)) refl (omega arith) (omega (arith, both_long, L.long₂))
        (λ i l.
        moved_at seam row₂ (m₁ % 8) (omega arith)
        ∙ both_moved L i _ _ (omega (arith, L.long₂)) (ap (λ x. get_or (x ∷ row₂) i 0) e) refl (small i))
        M.made

    -- and where their end needs a byte more, it is the last
    pub row_ended : {r : ℕ} → Filling (both_rows row₁ m₁ row₂ m₂) joined at joined₂ (m₁ / 8 + length row₂) → m₁ / 8 + length row₂ < bytes_for (m₁ + m₂) → r ≡ moved_byte last 0 (m₁ % 8) → set joined₂ (at + (m₁ / 8 + length row₂)) r ≡ sets joined at (both_rows row₁ m₁ row₂ m₂)
    row_ended F l is =
        let none : get_or row₂ (length row₂) 0 ≡ 0 = get_or-eq_default row₂ 0 (le_refl (length row₂)) in
        let byte = is ∙ both_moved L (length row₂) last 0 l (M.last.is ∙ ap (λ x. get_or (x ∷ row₂) (length row₂) 0) e) (sym none) (omega arith) in
        fill_end (fill_next F (omega (arith, both_long)) byte) (omega (arith, both_long, L.long₂))

  pub row_done : {joined' : List ℕ} → Filling (both_rows row₁ m₁ row₂ m₂) joined at joined' (m₁ / 8 + length row₂) → bytes_for (m₁ + m₂) ≤ m₁ / 8 + length row₂ → joined' ≡ sets joined at (both_rows row₁ m₁ row₂ m₂)
  row_done F l = fill_end F (omega (arith, both_long))

-- rows of sheets that break no rule

pub row_after : {s : List ℕ} {m i : ℕ} → RowInSheet s m i → (c : ℕ) → m ≤ c → bit_at (row_of s i) c ≡ false
unfolding bit_at
row_after {s} {m} {i} R c l =
    by_less c (8 * row_size s)
    (λ h.
    let past : c ≡ chores_of s + (c - chores_of s) = omega (arith, R.chores) in
    ap (bit_at (row_of s i)) past ∙ R.valid.padding i (c - chores_of s) R.agent (omega (arith, R.chores)))
    (λ h.
    let none : get_or (row_of s i) (c / 8) 0 ≡ 0 = get_or-eq_default (row_of s i) 0 (omega (arith, row_long s i R.valid.long R.agent)) in
    ap (λ x. bit x (7 - c % 8)) none ∙ bit_zero (7 - c % 8))

pub row_size_lem : {s : List ℕ} {m i : ℕ} → RowInSheet s m i → length (row_of s i) ≡ bytes_for m
row_size_lem {s} {i = i} R = rw R.chores (row_long s i R.valid.long R.agent)

pub joined_packs : (first second : List ℕ) (i : ℕ) → joined_row first second i ≡ both_rows (row_of first i) (chores_of first) (row_of second i) (chores_of second)
unfolding joined_row joined_chores joined_mark rows_mark is_difficult
joined_packs first second i = refl
