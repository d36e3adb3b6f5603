-- Laws of the lookup of a sheet by its number.
-- Assumes nothing.
use Prim.Native.Nat.{ℕ, ◌-◌, ◌≤◌, ◌<◌}
use mathlib.Core.List.{List, []}
use mathlib.Core.Path.{◌≡◌}
use native.Mathlib.Omega.{arith}
use borrow.Author.Tests.{eq-eqb, ne_eqb}
use Rattle.model.specs.Contents.{sheet_count, sheet_of}
use Rattle.model.specs.Refusals.{contents_refusal, lookup_refusal}
use Rattle.model.specs.Promises.{lookup}
use Rattle.model.proofs.Range.{range_facts}
use Rattle.sheet.proofs.OrElse.{or_else_zero, when_none}
use Rattle.contents.specs.Fits.{SheetInBook}
use Rattle.contents.proofs.Refusal.{fits}

module _ (book : List ℕ) (number : ℕ) where
  -- what a lookup that is not refused finds
  module _ (z : lookup_refusal book number ≡ 0) where
    within : (0 < number) × (number ≤ sheet_count book)
    unfolding lookup_refusal
    within = range_facts (sheet_count book) number (when_none _ 8 (or_else_zero (contents_refusal book) _ z).1)

    pub some_number : 0 < number
    some_number = within.0

    pub sheet_in_book_lem : SheetInBook book (number - 1)
    unfolding lookup_refusal
    sheet_in_book_lem =
        record { fits = fits book (or_else_zero (contents_refusal book) _ z).0; below = omega (arith, within.0, within.1) }

    pub lookup_found : lookup book number ≡ sheet_of book (number - 1)
    unfolding lookup
    lookup_found = rw (eq-eqb _ _ z)

  -- a refused one finds no bytes
  pub lookup_none : (lookup_refusal book number ≡ 0 → ⊥) → lookup book number ≡ []
  unfolding lookup
  lookup_none h = rw (ne_eqb _ _ h)
