-- Where the marks of a sheet lie, and what a row of them is.
-- Assumes nothing.
use Prim.Native.Nat.{ℕ, ◌+◌, ◌*◌, ◌-◌, ◌/◌, ◌%◌, ◌^◌, ◌≤◌, ◌<◌}
use mathlib.Core.Bool.{true, false, not, not-not}
use mathlib.Core.List.{List}
use mathlib.Core.Path.{◌≡◌, refl, sym, ap, ◌∙◌}
use native.Mathlib.Nat.{mul-le-mul_right}
use native.Mathlib.Omega.{arith}
use lib.Dec.{eqb}
use lib.ListN.{length, get_or, drop, length-drop}
use lib.Seq.{length-take-le, get_or-take, get_or-drop}
use Rattle.finite.specs.Sums.{count_to}
use Rattle.finite.specs.Bits.{bit}
use Rattle.finite.specs.Packed.{bit_at, bytes_for}
use Rattle.finite.specs.Search.{any_below, all_below}
use Rattle.finite.proofs.Search.{any_zero, any_intro, all_cong}
use Rattle.finite.proofs.Packed.{bit_in_byte, count_rest, all_counted, set_after_lem}
use Rattle.model.specs.Sheet.{header_size, agents_of, chores_of, row_size, row_start, row_of, sheet_length, is_difficult, marks_easy, difficult_marks, all_difficult}
use Rattle.model.specs.Refusals.{set_after, marks_fault}
use Rattle.sheet.specs.Readers.{Read, Whole, RowInSheet, InSheet}

-- a row is all difficult where none of its marks is easy
pub all_difficult_row : (s : List ℕ) (i : ℕ) → all_difficult s i ≡ all_below (chores_of s) (λ c. not (marks_easy s i c))
unfolding all_difficult marks_easy
all_difficult_row s i = all_cong (chores_of s) (λ c _. sym (not-not (is_difficult s i c)))

module _ (s : List ℕ) (i : ℕ) (long : length s ≡ sheet_length s) (agent : i < agents_of s) where
  -- a row lies inside its sheet
  pub row_inside : row_start s i + row_size s ≤ length s
  unfolding sheet_length
  row_inside = rw long (omega (arith, mul-le-mul_right (row_size s) agent))

  pub row_long : length (row_of s i) ≡ row_size s
  unfolding row_of
  row_long = length-take-le (row_size s) (drop (row_start s i) s) (simp length-drop (let l = row_inside in omega arith))

-- where a row after the last would start
pub length_is : (s : List ℕ) {n m : ℕ} → Read (agents_of s) 256 n → Read (chores_of s) 65536 m → header_size + n * bytes_for m ≡ sheet_length s
unfolding sheet_length
length_is s a c = rw (a.is, c.is)

-- for whoever reads a row, with its own number of chores
pub whole_row : {s : List ℕ} {n m i : ℕ} → Whole s n m → i < n → header_size + i * bytes_for m + bytes_for m ≤ length s
whole_row {s} {i = i} w l = rw w.chores (row_inside s i w.long (rw (← w.agents) l))

pub in_sheet_lem : {s : List ℕ} {m i : ℕ} → RowInSheet s m i → header_size + i * bytes_for m + bytes_for m ≤ length s
in_sheet_lem {s} {i = i} h = rw h.chores (row_inside s i h.valid.long h.agent)

-- its bytes
pub row_byte_lem : (s : List ℕ) (i k : ℕ) → k < row_size s → get_or (row_of s i) k 0 ≡ get_or s (row_start s i + k) 0
unfolding row_of
row_byte_lem s i k l = get_or-take (row_size s) (drop (row_start s i) s) k 0 l ∙ get_or-drop (row_start s i) s k 0

pub byte_is : {s : List ℕ} {m i : ℕ} → RowInSheet s m i → (start k : ℕ) → start ≡ header_size + i * bytes_for m → k < bytes_for m → get_or (row_of s i) k 0 ≡ get_or s (start + k) 0
byte_is {s} {m} {i} h start k e l =
    row_byte_lem s i k (rw (← h.chores) l) ∙ ap (λ r. get_or s (r + k) 0) (rw (← h.chores) (sym e))

-- its marks, byte by byte
pub mark_in_row : (s : List ℕ) (i k j : ℕ) → j < 8 → is_difficult s i (8 * k + j) ≡ bit (get_or (row_of s i) k 0) (7 - j)
unfolding is_difficult
mark_in_row s i k j l = bit_in_byte (row_of s i) k j l

-- whoever reads a mark reads in a row of its sheet, a byte that is there
module _ {s : List ℕ} {m i c : ℕ} (h : InSheet s m i c) where
  pub mark_row : RowInSheet s m i
  mark_row = record { valid = h.valid; chores = h.chores; agent = h.agent }

  pub byte_below : c / 8 < bytes_for m
  byte_below = omega (arith, h.chores, h.chore)

  pub mark_read : is_difficult s i c ≡ bit (get_or (row_of s i) (c / 8) 0) (7 - c % 8)
  mark_read =
      let here : 8 * (c / 8) + c % 8 ≡ c = omega arith in
      ap (is_difficult s i) (sym here) ∙ mark_in_row s i (c / 8) (c % 8) (omega arith)

-- the difficult marks of a row are the bits set in all of its bytes
module _ {s : List ℕ} {m i : ℕ} (h : RowInSheet s m i) where
  pub count_all : (count k : ℕ) → k ≡ bytes_for m → count ≡ count_to (8 * k) (bit_at (row_of s i)) → count ≡ difficult_marks s i
  unfolding difficult_marks is_difficult
  count_all count k e so_far =
      so_far ∙ rw (e, h.chores) (count_rest (bit_at (row_of s i)) (omega arith) (λ j. h.valid.padding i j h.agent))

  pub all_difficult_count : all_difficult s i ≡ eqb (difficult_marks s i) m
  unfolding all_difficult difficult_marks
  all_difficult_count = rw h.chores (all_counted (chores_of s) (is_difficult s i))

-- a set bit after the last mark
pub none_after : {m : ℕ} (row : List ℕ) → m ≡ 0 → set_after m row ≡ false
unfolding set_after
none_after row e = rw e (any_zero _)

pub last_byte_tells : {s : List ℕ} {n m i : ℕ} → Whole s n m → i < n → (m ≡ 0 → ⊥) → not (eqb (get_or s (header_size + i * bytes_for m + (bytes_for m - 1)) 0 % 2 ^ (8 * bytes_for m - m)) 0) ≡ set_after m (row_of s i)
unfolding set_after
last_byte_tells {s} {m = m} {i} w l some =
    let last : bytes_for m - 1 < bytes_for m = omega arith in
    let same : get_or (row_of s i) (bytes_for m - 1) 0 ≡ get_or s (header_size + i * bytes_for m + (bytes_for m - 1)) 0 =
    row_byte_lem s i (bytes_for m - 1) (rw (← w.chores) last) ∙ rw (← w.chores) refl in
    rw (← same) (sym (set_after_lem (row_of s i) m (omega arith)))

-- in some row
module _ {s : List ℕ} {n m : ℕ} (w : Whole s n m) where
  pub fault_found : (i : ℕ) → i < n → set_after m (row_of s i) ≡ true → marks_fault s ≡ true
  unfolding marks_fault
  fault_found i l e = any_intro (λ j. set_after (chores_of s) (row_of s j)) i (rw (← w.agents) l) (rw (← w.chores) e)

  pub fault_none : (i : ℕ) → i ≡ n → any_below i (λ j. set_after m (row_of s j)) ≡ false → marks_fault s ≡ false
  unfolding marks_fault
  fault_none i e none = rw (← w.agents, ← w.chores, ← e) none
