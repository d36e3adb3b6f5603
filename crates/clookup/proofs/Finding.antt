-- The lookup in C: refused, everything is kept; found, the part lies where the contents say.
-- Assumes nothing.
use Prim.Native.Nat.{ℕ, ◌-◌}
use mathlib.Core.List.{List}
use mathlib.Core.Path.{◌≡◌, sym}
use borrow.Author.Tests.{ne_eqb}
use Rattle.model.specs.Contents.{sheet_start, sheet_size, sheet_of}
use Rattle.model.specs.Refusals.{lookup_refusal}
use Rattle.contents.proofs.Bodies.{sheet_inside}
use Rattle.contents.proofs.Lookup.{sheet_in_book_lem}
use Rattle.cmodel.specs.Promises.{FoundInC}

pub not_found : (book : List ℕ) (sheet_number : ℕ) {start size r : ℕ} → r ≡ lookup_refusal book sheet_number → (r ≡ 0 → ⊥) → FoundInC book sheet_number start size start size r
not_found book sheet_number {r = r} e h =
    record {
      answer = e;
      start_at_exit = sym (rw (ne_eqb r 0 h));
      size_at_exit = sym (rw (ne_eqb r 0 h));
      inside = λ z. absurd (h z);
      found = λ z. absurd (h z);
    }

pub found : (book : List ℕ) (sheet_number : ℕ) {start size start' size' : ℕ} → lookup_refusal book sheet_number ≡ 0 → start' ≡ sheet_start book (sheet_number - 1) → size' ≡ sheet_size book (sheet_number - 1) → FoundInC book sheet_number start size start' size' 0
unfolding sheet_of
found book sheet_number z at long =
    let there = sheet_in_book_lem book sheet_number z in
    record {
      answer = sym z;
      start_at_exit = at;
      size_at_exit = long;
      inside = λ _. rw (at, long) (sheet_inside there.fits (sheet_number - 1) there.below);
      found = λ _. rw (at, long);
    }
