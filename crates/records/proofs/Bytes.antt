-- The bytes of moves.
-- Assumes nothing.
use Prim.Native.Nat.{ℕ, suc, ◌+◌, ◌*◌}
use mathlib.Core.List.{List, [], ◌∷◌, ◌++◌, append_assoc}
use mathlib.Core.Path.{◌≡◌, refl, sym, ◌∙◌}
use native.Mathlib.Numerals.{add-one}
use native.Mathlib.Omega.{arith}
use lib.ListN.{length, set, length-append}
use lib.Seq.{sets}
use Rattle.model.specs.Record.{Move, move_size, move_bytes, record_of}

-- the six stores of a move
pub six_stores : (bytes : List ℕ) (i u v w x y z : ℕ) → set (set (set (set (set (set bytes i u) (i + 1) v) (i + 2) w) (i + 3) x) (i + 4) y) (i + 5) z ≡ sets bytes i (u ∷ v ∷ w ∷ x ∷ y ∷ z ∷ [])
six_stores bytes i u v w x y z =
    let two : i + 2 ≡ suc (suc i) = omega arith in
    let three : i + 3 ≡ suc (suc (suc i)) = omega arith in
    let four : i + 4 ≡ suc (suc (suc (suc i))) = omega arith in
    let five : i + 5 ≡ suc (suc (suc (suc (suc i)))) = omega arith in
    rw (add-one i, two, three, four, five)

pub move_length : (t : Move) → length (move_bytes t) ≡ move_size
unfolding move_bytes
move_length t = refl

pub record_length : (ts : List Move) → length (record_of ts) ≡ move_size * length ts
unfolding record_of
record_length [] = refl
record_length (t ∷ ts) = length-append (move_bytes t) (record_of ts) ∙ omega (arith, move_length t, record_length ts)

pub record_append : (ts us : List Move) → record_of (ts ++ us) ≡ record_of ts ++ record_of us
unfolding record_of
record_append [] us = refl
record_append (t ∷ ts) us = rw (record_append ts us) (sym (append_assoc (move_bytes t) (record_of ts) (record_of us)))

pub record_one : (t : Move) → record_of (t ∷ []) ≡ move_bytes t
unfolding record_of move_bytes
record_one t = refl
