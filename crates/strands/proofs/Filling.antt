-- Rows of bytes as code writes them into a list: from the front, as they are or moved.
-- Assumes nothing.
use Prim.Native.Nat.{ℕ, ◌+◌, ◌≤◌, ◌<◌}
use mathlib.Core.List.{List, [], ◌∷◌, ◌++◌}
use mathlib.Core.Path.{◌≡◌, refl, sym, ap, ap₂, ◌∙◌}
use native.Mathlib.Nat.{add-zero}
use native.Mathlib.Numerals.{add-one}
use native.Mathlib.Omega.{arith}
use borrow.Rule.Slice.PartMut.{put_mid}
use lib.ListN.{length, take, drop, get_or, set, length-set, length-drop}
use lib.Seq.{sets, length-sets, length-take-le, ext_get_or, get_or-take, get_or-drop, take-add, take_all}
use Rattle.finite.proofs.Below.{none_below, by_top}
use Rattle.finite.proofs.Lists.{tab_length, tab_at, sets_append}
use Rattle.finite.proofs.Stored.{put_over}
use Rattle.sheet.specs.Readers.{Read}
use Rattle.strands.specs.Parts.{moved_byte, moved_bytes, Moved}

-- a byte at the front, two after it, and four more
pub header_stores : (joined weights : List ℕ) (a b c : ℕ) → 7 ≤ length joined → length weights ≡ 4 → put_mid 3 4 (put_mid 1 2 (set joined 0 a) (b ∷ c ∷ [])) weights ≡ sets joined 0 (a ∷ b ∷ c ∷ weights)
header_stores joined weights a b c room four =
    let one = set joined 0 a in
    let count = b ∷ c ∷ [] in
    let long : length one ≡ length joined = simp length-set in
    let after : length (sets one 1 count) ≡ length joined = length-sets one 1 count ∙ long in
    rw (put_over one count 1 2 (omega arith) refl, put_over (sets one 1 count) weights 3 4 (omega arith) (sym four))

-- the first k bytes of a row are written from at on
pub record Filling (row joined : List ℕ) (at : ℕ) (joined' : List ℕ) (k : ℕ) : Type 0 where
  pub within : k ≤ length row
  pub made : joined' ≡ sets joined at (take k row)

pub fill_zero : (row joined : List ℕ) (at : ℕ) → Filling row joined at joined 0
fill_zero row joined at = record { within = omega arith; made = refl }

module _ {row joined : List ℕ} {at : ℕ} {joined' : List ℕ} {k : ℕ} (F : Filling row joined at joined' k) where
  pub fill_sized : length joined' ≡ length joined
  fill_sized = ap length F.made ∙ length-sets joined at (take k row)

  -- and more of them
  pub fill_more : {here n : ℕ} {joined'' : List ℕ} (xs : List ℕ) → here ≡ at + k → n ≡ k + length xs → n ≤ length row → ((i : ℕ) → i < length xs → get_or xs i 0 ≡ get_or row (k + i) 0) → joined'' ≡ sets joined' here xs → Filling row joined at joined'' n
  fill_more xs there end room same more =
      let rest : length xs ≤ length (drop k row) = simp length-drop (omega arith) in
      let begin = there ∙ ap (λ i. at + i) (sym (length-take-le k row F.within)) in
      let these : xs ≡ take (length xs) (drop k row) =
      ext_get_or 0 xs (take (length xs) (drop k row)) (sym (length-take-le (length xs) (drop k row) rest))
      (λ i l. same i l ∙ sym (get_or-take (length xs) (drop k row) i 0 l ∙ get_or-drop k row i 0)) in
      record {
        within = room;
        made =
            more
            ∙ ap₂ (λ list i. sets list i xs) F.made begin
            ∙ sets_append (take k row) xs joined at
            ∙ ap (λ ys. sets joined at (take k row ++ ys)) these
            ∙ ap (sets joined at) (sym (take-add k (length xs) row) ∙ ap (λ i. take i row) (sym end));
      }

  pub fill_next : {r : ℕ} → k < length row → r ≡ get_or row k 0 → Filling row joined at (set joined' (at + k) r) (k + 1)
  fill_next {r} l e =
      fill_more (r ∷ []) refl refl (omega arith) (λ i h. by_top h (λ z. rw (z, add-zero k) e) none_below) refl

  pub fill_end : length row ≤ k → joined' ≡ sets joined at row
  fill_end l = F.made ∙ ap (sets joined at) (take_all k row l)

-- a row that is moved: the first k of its bytes are written, and `high` is the byte before the next
pub record Moving (before : ℕ) (row : List ℕ) (shift : ℕ) (joined : List ℕ) (at : ℕ) (joined' : List ℕ) (high k : ℕ) : Type 0 where
  pub filled : Filling (moved_bytes before row shift) joined at joined' k
  pub carried : Read (get_or (before ∷ row) k 0) 256 high

pub moved_long : (before : ℕ) (row : List ℕ) (shift : ℕ) → length (moved_bytes before row shift) ≡ length row
unfolding moved_bytes
moved_long before row shift = tab_length (length row) (λ k. moved_byte (get_or (before ∷ row) k 0) (get_or row k 0) shift)

pub moved_at : {k : ℕ} (before : ℕ) (row : List ℕ) (shift : ℕ) → k < length row → get_or (moved_bytes before row shift) k 0 ≡ moved_byte (get_or (before ∷ row) k 0) (get_or row k 0) shift
unfolding moved_bytes
moved_at {k} before row shift l = tab_at (λ i. moved_byte (get_or (before ∷ row) i 0) (get_or row i 0) shift) k 0 l

pub move_zero : {before : ℕ} (row : List ℕ) (shift : ℕ) (joined : List ℕ) (at : ℕ) → before < 256 → Moving before row shift joined at joined before 0
move_zero row shift joined at small = record { filled = fill_zero _ joined at; carried = record { is = refl; below = small } }

module _ {before : ℕ} {row : List ℕ} {shift : ℕ} {joined : List ℕ} {at : ℕ} {joined' : List ℕ} {high k : ℕ} (M : Moving before row shift joined at joined' high k) where
  pub move_next : {low r : ℕ} → k < length row → Read (get_or row k 0) 256 low → r ≡ moved_byte high low shift → Moving before row shift joined at (set joined' (at + k) r) low (k + 1)
  move_next {low} {r} l R e =
      let byte : r ≡ get_or (moved_bytes before row shift) k 0 = e ∙ rw (M.carried.is, R.is) (sym (moved_at before row shift l)) in
      record {
        filled = fill_next M.filled (omega (arith, moved_long before row shift)) byte;
        carried = rw (add-one k) R;
      }

  pub move_end : length row ≤ k → Moved before row shift joined at joined' high
  move_end l =
      let all : k ≡ length row = omega (arith, M.filled.within, moved_long before row shift) in
      record {
        made = fill_end M.filled (omega (arith, moved_long before row shift));
        last = rw all at M.carried;
      }
