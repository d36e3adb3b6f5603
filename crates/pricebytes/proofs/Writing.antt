-- Laws of writing prices over bytes.
-- Assumes nothing.
use Prim.Native.Nat.{ℕ, ◌+◌, ◌*◌, ◌≤◌, ◌<◌}
use mathlib.Core.List.{List, [], ◌∷◌, ◌++◌, append_assoc}
use mathlib.Core.Path.{◌≡◌, refl, sym, ap, ◌∙◌}
use native.Mathlib.Numerals.{add-one}
use native.Mathlib.Omega.{arith}
use lib.ListN.{length, get_or, take, drop, length-append, length-drop}
use lib.Seq.{sets, sets-eq, take-suc, take_at, drop_at, drop-append-add, drop-drop, length-take-le}
use Rattle.std.proofs.lemmas.List.{length-take, get_or-take}
use Rattle.pricebytes.specs.PriceBytes.{four_bytes, bytes_of, with_prices}

pub bytes-length : (ps : List ℕ) → length (bytes_of ps) ≡ 4 * length ps
unfolding bytes_of
bytes-length [] = refl
bytes-length (p ∷ ps) = omega (arith, bytes-length ps)

pub bytes-append : (ps qs : List ℕ) → bytes_of (ps ++ qs) ≡ bytes_of ps ++ bytes_of qs
unfolding bytes_of
bytes-append [] qs = refl
bytes-append (p ∷ ps) qs = rw (bytes-append ps qs)

pub bytes_one : (p : ℕ) → bytes_of (p ∷ []) ≡ four_bytes p
unfolding bytes_of
bytes_one p = refl

module _ (ps bytes : List ℕ) where
  pub with_none : with_prices 0 ps bytes ≡ bytes
  unfolding with_prices bytes_of
  with_none = refl

  -- what is written of n prices
  pub first_length : {n : ℕ} → n ≤ length ps → length (bytes_of (take n ps)) ≡ 4 * n
  first_length {n} l = rw (bytes-length (take n ps), length-take-le n ps l)

  pub with_first : (n : ℕ) → n ≤ length ps → take (4 * n) (with_prices n ps bytes) ≡ bytes_of (take n ps)
  unfolding with_prices
  with_first n l = take_at (bytes_of (take n ps)) (drop (4 * n) bytes) (4 * n) (first_length l)

  pub with_rest : (n : ℕ) → n ≤ length ps → drop (4 * n) (with_prices n ps bytes) ≡ drop (4 * n) bytes
  unfolding with_prices
  with_rest n l = drop_at (bytes_of (take n ps)) (drop (4 * n) bytes) (4 * n) (first_length l)

  -- one price more
  pub with_next : {c : ℕ} → c < length ps → 4 * c + 4 ≤ length bytes → sets (with_prices c ps bytes) (4 * c) (four_bytes (get_or ps c 0)) ≡ with_prices (c + 1) ps bytes
  unfolding with_prices
  with_next {c} l m =
      let before = bytes_of (take c ps) in
      let rest = drop (4 * c) bytes in
      let long : length before ≡ 4 * c = first_length (omega arith) in
      let next : 4 * (c + 1) ≡ 4 * c + 4 = omega arith in
      let kept : drop (4 * c + 4) (before ++ rest) ≡ drop (4 * (c + 1)) bytes = ap (λ k. drop (k + 4) (before ++ rest)) (sym long) ∙ drop-append-add before rest 4 ∙ drop-drop 4 (4 * c) bytes ∙ ap (λ k. drop k bytes) (sym next) in
      let more : bytes_of (take (c + 1) ps) ≡ before ++ four_bytes (get_or ps c 0) = rw (add-one c, take-suc ps c 0 l, bytes-append, bytes_one) in
      sets-eq (four_bytes (get_or ps c 0)) (before ++ rest) (4 * c) (simp (length-append, length-drop) (omega arith))
      ∙ rw (take_at before rest (4 * c) long, kept, more, append_assoc)

-- the next of the first n prices, written over what the ones before it left
pub next_written : (n : ℕ) (ps bytes : List ℕ) {c : ℕ} {before after : List ℕ} → after ≡ sets before (4 * c) (four_bytes (get_or (take n ps) c 0)) → before ≡ with_prices c ps bytes → 4 * n ≤ length bytes → c < length (take n ps) → after ≡ with_prices (c + 1) ps bytes
next_written n ps bytes {c} written earlier fits l =
    let below : c < n = omega (arith, length-take n ps) in
    let inside : c < length ps = omega (arith, length-take n ps) in
    written ∙ rw (get_or-take n ps c 0 below, earlier) (with_next ps bytes inside (omega arith))
