-- Laws for the loops that put the easy marks, row by row, into the words of the chores.
-- Assumes nothing.
use Prim.Native.Nat.{ℕ, ◌+◌, ◌*◌, ◌-◌, ◌<◌, ◌^◌}
use mathlib.Core.Bool.{cond}
use mathlib.Core.List.{List}
use mathlib.Core.Path.{◌≡◌, refl, sym, ap, ◌∙◌}
use native.Mathlib.Numerals.{add-one}
use native.Mathlib.Omega.{arith}
use lib.Bits.{bit_or}
use lib.Dec.{eqb}
use lib.ListN.{length, get_or, set, replicate, length-set, length-replicate, get_or-replicate}
use lib.Seq.{get_or-set_same, get_or-set_other}
use Rattle.finite.specs.Bits.{bit}
use Rattle.finite.proofs.Below.{none_below, by_top}
use Rattle.finite.proofs.Bits.{set_zero, set_unless}
use Rattle.finite.proofs.Packed.{digit_is, bit_in_byte}
use Rattle.model.specs.Sheet.{chores_of, row_of, is_difficult, marks_easy}
use Rattle.opening.specs.Opened.{Marked}

-- the mark at place j of byte k of agent i's row is the one for chore 8 * k + j
pub mark_in_byte : (s : List ℕ) (i k : ℕ) {j byte mark : ℕ} → j < 8 → byte ≡ get_or (row_of s i) k 0 → mark ≡ cond (bit byte (7 - j)) 1 0 → eqb mark 1 ≡ is_difficult s i (8 * k + j)
unfolding is_difficult
mark_in_byte s i k {j} {byte} l is read =
    ap (λ x. eqb x 1) read ∙ digit_is (bit byte (7 - j)) ∙ ap (λ x. bit x (7 - j)) is ∙ sym (bit_in_byte (row_of s i) k j l)

-- at first nobody is in
pub marked_none : {s likes : List ℕ} → likes ≡ replicate (chores_of s) 0 → Marked s 0 0 likes
marked_none {s} e =
    record {
      likes_sized = ap length e ∙ length-replicate (chores_of s) 0;
      passed = λ d l. none_below l;
      ahead = λ d _ l. rw (e, get_or-replicate {A = ℕ} (chores_of s) d 0 0 l) (set_zero _);
    }

module _ {s likes : List ℕ} {i c : ℕ} where
  -- agent i's mark for chore c goes in
  pub marked_next : {word : ℕ} → Marked s i c likes → c < chores_of s → word ≡ cond (is_difficult s i c) (get_or likes c 0) (bit_or (get_or likes c 0) (2 ^ i)) → Marked s i (c + 1) (set likes c word)
  unfolding marks_easy
  marked_next {word} h l e =
      record {
        likes_sized = length-set likes c word ∙ h.likes_sized;
        passed =
            λ d m. by_top (rw add-one at m)
            (λ q. rw (q, get_or-set_same likes c word 0 (rw h.likes_sized l), e) (set_unless (is_difficult s i c) (h.ahead c (omega arith) l) refl))
            (λ m. rw (get_or-set_other likes c d word 0 (λ q. omega arith)) (h.passed d m));
        ahead = λ d m n. rw (get_or-set_other likes c d word 0 (λ q. omega arith)) (h.ahead d (omega arith) n);
      }

  -- the row is in
  pub marked_row : Marked s i c likes → c ≡ chores_of s → Marked s (i + 1) 0 likes
  marked_row h e =
      record {
        likes_sized = h.likes_sized;
        passed = λ d l. none_below l;
        ahead = λ d _ l. h.passed d (rw e l);
      }
