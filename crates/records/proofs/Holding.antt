-- A record of the moves so far takes in one more.
-- Assumes nothing.
use Prim.Native.Nat.{ℕ, ◌+◌, ◌*◌, ◌≤◌}
use mathlib.Core.List.{List, [], ◌∷◌, ◌++◌}
use mathlib.Core.Path.{◌≡◌, refl, sym, ap, subst, ◌∙◌}
use native.Mathlib.Omega.{arith}
use lib.ListN.{length, take, drop, length-append}
use lib.Seq.{sets-eq, length-sets, take_at, drop_at, drop-drop}
use Rattle.finite.proofs.Below.{by_less}
use Rattle.model.specs.Record.{Move, move_size, move_bytes, record_of}
use Rattle.records.specs.Noted.{Noted, Holding}
use Rattle.records.proofs.Bytes.{move_length, record_length, record_append, record_one}

-- nothing is recorded yet
pub nothing_yet : (bytes : List ℕ) → Holding [] bytes bytes
unfolding record_of
nothing_yet bytes = record { sized = refl; first = λ h. refl }

module _ {moves : List Move} {bytes bytes' bytes'' : List ℕ} (H : Holding moves bytes bytes') {t : Move} (N : Noted (length moves) t bytes' bytes'') where
  one_more : length (moves ++ (t ∷ [])) ≡ length moves + 1
  one_more = length-append moves (t ∷ [])

  noted_sized : length bytes'' ≡ length bytes
  noted_sized =
      by_less (length bytes') (move_size * (length moves + 1))
      (λ h. ap length (N.full h) ∙ H.sized)
      (λ h. ap length (N.fits h) ∙ length-sets bytes' (move_size * length moves) (move_bytes t) ∙ H.sized)

  noted_first : move_size * (length moves + 1) ≤ length bytes → bytes'' ≡ record_of (moves ++ (t ∷ [])) ++ drop (move_size * (length moves + 1)) bytes
  noted_first h =
      let at = move_size * length moves in
      let rest = drop at bytes in
      let was : bytes' ≡ record_of moves ++ rest = H.first (omega arith) in
      let past : at + length (move_bytes t) ≡ move_size * (length moves + 1) = omega (arith, move_length t) in
      let front : take at bytes' ≡ record_of moves = ap (take at) was ∙ take_at (record_of moves) rest at (record_length moves) in
      let behind : drop at bytes' ≡ rest = ap (drop at) was ∙ drop_at (record_of moves) rest at (record_length moves) in
      let back : drop (at + length (move_bytes t)) bytes' ≡ drop (move_size * (length moves + 1)) bytes =
      sym (drop-drop (length (move_bytes t)) at bytes')
      ∙ ap (drop (length (move_bytes t))) behind
      ∙ drop-drop (length (move_bytes t)) at bytes
      ∙ ap (λ k. drop k bytes) past in
      N.fits (omega (arith, H.sized))
      ∙ sets-eq (move_bytes t) bytes' at (omega (arith, move_length t))
      ∙ rw (front, back, record_append moves (t ∷ []), record_one t)

  noted_more : Holding (moves ++ (t ∷ [])) bytes bytes''
  noted_more = record { sized = noted_sized; first = λ h. rw one_more (noted_first (rw one_more at h)) }

pub noted_on : {moves : List Move} {bytes bytes' bytes'' : List ℕ} {made : ℕ} {t : Move} → Holding moves bytes bytes' → length moves ≡ made → Noted made t bytes' bytes'' → Holding (moves ++ (t ∷ [])) bytes bytes''
noted_on {bytes' = bytes'} {bytes''} {t = t} H e N = noted_more H (subst (λ k. Noted k t bytes' bytes'') (sym e) N)
