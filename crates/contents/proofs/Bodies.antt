-- Where the bodies of a book lie.
-- Assumes nothing.
use Prim.Native.Nat.{ℕ, zero, suc, ◌+◌, ◌*◌, ◌-◌, ◌≤◌, ◌<◌}
use mathlib.Core.Bool.{true, false}
use mathlib.Core.List.{List}
use mathlib.Core.Path.{◌≡◌, refl, ◌∙◌}
use native.Mathlib.Omega.{arith}
use lib.Dec.{eqb}
use lib.ListN.{length}
use borrow.Author.Tests.{eq-eqb, ne_eqb}
use Rattle.finite.proofs.Search.{all_zero, all_next, all_fails_intro}
use Rattle.finite.proofs.Tests.{and_intro}
use Rattle.model.specs.Contents.{sheet_count, sheet_start, sheet_size, sheet_end, body_start}
use Rattle.contents.specs.Parts.{starts_fit, bodies_fit}
use Rattle.contents.specs.Fits.{Fits}

module _ (book : List ℕ) where
  -- the first body follows the contents
  pub body_first : body_start book 0 ≡ 1 + 4 * sheet_count book
  unfolding body_start
  body_first = refl

  -- each further one follows the body before it
  pub body_next : (j : ℕ) → body_start book (j + 1) ≡ sheet_end book j
  unfolding body_start
  body_next j =
      let back : j + 1 - 1 ≡ j = omega arith in
      rw (ne_eqb (j + 1) 0 (omega arith), back)

  -- and the last one ends where one more would start
  pub body_last : {k : ℕ} → 0 < k → body_start book k ≡ sheet_end book (k - 1)
  unfolding body_start
  body_last {k} some = rw (ne_eqb k 0 (omega arith))

  pub starts_zero : starts_fit book 0 ≡ true
  unfolding starts_fit
  starts_zero = all_zero _

  pub starts_next : (j : ℕ) → starts_fit book j ≡ true → sheet_start book j ≡ body_start book j → starts_fit book (j + 1) ≡ true
  unfolding starts_fit
  starts_next j e h = all_next j _ ∙ and_intro e (eq-eqb _ _ h)

  pub starts_fail : (k j : ℕ) → j < k → (sheet_start book j ≡ body_start book j → ⊥) → starts_fit book k ≡ false
  unfolding starts_fit
  starts_fail k j l h = all_fails_intro _ j l (ne_eqb _ _ h)

  -- after the last body only the book's end is left to judge
  pub bodies_end : {k end : ℕ} → 0 < k → end ≡ body_start book k → starts_fit book k ≡ true → eqb end (length book) ≡ bodies_fit book k
  bodies_end some e starts = rw (starts, e, body_last some)

module _ {book : List ℕ} (f : Fits book) where
  -- sheet j + 1 starts where sheet j ends
  pub next_start : (j : ℕ) → j + 1 < sheet_count book → sheet_start book (j + 1) ≡ sheet_end book j
  next_start j l = f.starts (j + 1) l ∙ body_next book j

  -- a sheet with d more after it
  ends_before : (d j : ℕ) → j + suc d ≡ sheet_count book → sheet_end book j ≤ length book
  unfolding sheet_end
  ends_before zero j e =
      let last : sheet_count book - 1 ≡ j = omega arith in
      omega (arith, rw last at f.whole)
  ends_before (suc d) j e =
      omega (arith, next_start j (omega arith), ends_before d (j + 1) (omega arith))

  -- each sheet's part lies inside the book
  pub end_inside : (j : ℕ) → j < sheet_count book → sheet_end book j ≤ length book
  end_inside j l = ends_before (sheet_count book - suc j) j (omega arith)

  pub sheet_inside : (j : ℕ) → j < sheet_count book → sheet_start book j + sheet_size book j ≤ length book
  unfolding sheet_end
  sheet_inside = end_inside

  -- and so does its entry in the contents
  pub entry_inside : (j : ℕ) → j < sheet_count book → 1 + 4 * (j + 1) ≤ length book
  entry_inside j l = omega (arith, f.contents)
