-- Bytes that stand first in a buffer: some more after them, some taken off at their front, or none.
-- Assumes nothing.
use Prim.Native.Nat.{ℕ, ◌+◌, ◌-◌, ◌≤◌}
use mathlib.Core.List.{List, [], ◌++◌, append-nil}
use mathlib.Core.Path.{◌≡◌, sym, ap, ◌∙◌}
use native.Mathlib.Omega.{arith}
use lib.ListN.{length, take, drop}
use lib.Seq.{take-add, take-append-le, paste}
use Rattle.std.specs.Prelude.{Option, None, Some, Result, Ok, Err, OnOk}
use Rattle.std.specs.Io.KnownBytes.{Keeps, append_known}
use Rattle.std.proofs.KnownBytes.{Keeps-trans}
use Rattle.std.proofs.Common.{drop_at, length-drop, length-take-le, take-take}
use Rattle.std.proofs.lemmas.List.Edits.{take-paste}
use Rattle.std.proofs.lemmas.Slice.{take-put_mid_below}
use borrow.Rule.Slice.PartMut.{put_mid, post_of}

pub take_more : (a k n : ℕ) (xs ys : List ℕ) → a ≤ length xs → n ≤ length ys → take a xs ++ take n ys ≡ take (a + n) (put_mid a k xs ys)
take_more a k n xs ys within fits =
    let after = post_of a k xs in
    let part : take n (drop a (put_mid a k xs ys)) ≡ take n ys = ap (take n) (drop_at (take a xs) (ys ++ after) a (length-take-le a xs within)) ∙ take-append-le n ys after fits in
    let front : take a (put_mid a k xs ys) ≡ take a xs = take-put_mid_below _ _ _ _ _ (omega arith) within in
    sym (take-add a n (put_mid a k xs ys) ∙ ap (λ l. l ++ take n (drop a (put_mid a k xs ys))) front ∙ ap (λ l. take a xs ++ l) part)

pub take_fewer : (size n : ℕ) (xs : List ℕ) → n ≤ size → size ≤ length xs → take size xs ≡ take n (take size xs) ++ take (size - n) (paste xs 0 (drop n xs) (size - n))
take_fewer size n xs few within =
    let left = size - n in
    let same : 0 + left ≡ left = omega arith in
    let all : n + left ≡ size = omega arith in
    let rest : take left (paste xs 0 (drop n xs) left) ≡ take left (drop n xs) = ap (λ k. take k (paste xs 0 (drop n xs) left)) (sym same) ∙ take-paste xs 0 (drop n xs) left (omega arith) (omega (arith, length-drop n xs)) in
    let front : take n (take size xs) ≡ take n xs = take-take n size xs few in
    rw (front, rest, ← take-add n left xs, all)

-- once none are left, the writer holds them all,
alone : (a b : Option (List ℕ)) → Keeps a (append_known b []) → Keeps a b
alone None b P = tt
alone (Some x) None P = P
alone (Some x) (Some y) P = sym (append-nil y) ∙ P

-- whatever its own flush answers
pub none_left : {T E : Type 0} (r : Result T E) (a b c : Option (List ℕ)) (size : ℕ) (xs : List ℕ) → size ≡ 0 → Keeps a (append_known b (take size xs)) → Keeps b c → OnOk r (Keeps a c)
none_left (Err e) a b c size xs z P Q = tt
none_left (Ok x) a b c size xs z P Q = Keeps-trans a b c (alone a b (rw z at P)) Q
