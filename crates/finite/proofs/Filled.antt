-- Laws of a list that names a number from 1 on for each place, and 0 where it names none yet: what the places of one number come to, while
-- places are filled.
-- Assumes nothing.
use Prim.Native.Nat.{ℕ, ◌+◌, ◌<◌}
use mathlib.Core.List.{List}
use mathlib.Core.Path.{◌≡◌, ◌∙◌}
use native.Mathlib.Omega.{arith}
use lib.Dec.{eqb}
use lib.ListN.{length, get_or, set}
use lib.Seq.{get_or-set_same, get_or-set_other}
use borrow.Author.Tests.{eq-eqb, ne_eqb}
use Rattle.finite.specs.Sums.{sum_where}
use Rattle.finite.proofs.Below.{by_same}
use Rattle.finite.proofs.Where.{where_test, where_change}

-- the free place c gets the number v + 1
module _ {m c : ℕ} (x : List ℕ) (v : ℕ) (f : ℕ → ℕ) (place : c < m) (there : c < length x) (free : get_or x c 0 ≡ 0) where
  pub filled_more : sum_where m (λ d. eqb (get_or (set x c (v + 1)) d 0) (v + 1)) f ≡ sum_where m (λ d. eqb (get_or x d 0) (v + 1)) f + f c
  filled_more =
      where_change (λ d. eqb (get_or x d 0) (v + 1)) (λ d. eqb (get_or (set x c (v + 1)) d 0) (v + 1)) f c place
      (ne_eqb (get_or x c 0) (v + 1) (λ e. omega arith))
      (eq-eqb (get_or (set x c (v + 1)) c 0) (v + 1) (get_or-set_same x c (v + 1) 0 there))
      (λ d l ne. rw (get_or-set_other x c d (v + 1) 0 ne))

  pub filled_same : (j : ℕ) → (j ≡ v → ⊥) → sum_where m (λ d. eqb (get_or (set x c (v + 1)) d 0) (j + 1)) f ≡ sum_where m (λ d. eqb (get_or x d 0) (j + 1)) f
  filled_same j other =
      where_test m f λ d l.
      by_same d c
      (λ e. rw (e, get_or-set_same x c (v + 1) 0 there, free)
      (ne_eqb (v + 1) (j + 1) (λ q. other (omega arith)) ∙ rw (ne_eqb 0 (j + 1) (λ q. omega arith))))
      (λ ne. rw (get_or-set_other x c d (v + 1) 0 ne))
