-- Laws of a book's refusal: what each test decides, and what 0 means.
-- Assumes nothing.
use Prim.Native.Nat.{ℕ, ◌+◌, ◌*◌, ◌≤◌, ◌<◌}
use mathlib.Core.Bool.{true, false, not, ◌&&◌}
use mathlib.Core.List.{List}
use mathlib.Core.Path.{◌≡◌, refl, sym, ◌∙◌}
use lib.Dec.{leb}
use lib.ListN.{length}
use borrow.Author.Tests.{le-leb, lt-leb, leb-true, eq-eqb, eqb-true, not-true, not-false}
use Rattle.finite.proofs.Tests.{and_elim, and_intro, and_no_left, not_off}
use Rattle.finite.proofs.Search.{all_elim, all_intro}
use Rattle.model.specs.Limits.{max_sheets, max_book, out_of_range}
use Rattle.model.specs.Contents.{sheet_count, book_fits}
use Rattle.model.specs.Refusals.{contents_refusal}
use Rattle.model.proofs.Range.{range_facts, in_range}
use Rattle.sheet.proofs.OrElse.{when_none}
use Rattle.contents.specs.Parts.{starts_fit, bodies_fit}
use Rattle.contents.specs.Fits.{Fits}

module _ (book : List ℕ) where
  -- the rule in the steps of the code
  in-steps :
      book_fits book
      ≡ not (out_of_range max_book (length book))
      && (not (out_of_range max_sheets (sheet_count book))
      && (leb (1 + 4 * sheet_count book) (length book)
      && bodies_fit book (sheet_count book)))
  unfolding book_fits starts_fit
  in-steps = refl

  pub wrong_size : out_of_range max_book (length book) ≡ true → book_fits book ≡ false
  wrong_size e = in-steps ∙ and_no_left _ (not_off e)

  module _ {k : ℕ} (count : k ≡ sheet_count book) (sized : out_of_range max_book (length book) ≡ false) where
    steps_on : book_fits book ≡ not (out_of_range max_sheets k) && (leb (1 + 4 * k) (length book) && bodies_fit book k)
    steps_on = rw (in-steps, sized, count)

    pub wrong_count : out_of_range max_sheets k ≡ true → book_fits book ≡ false
    wrong_count e = steps_on ∙ and_no_left _ (not_off e)

    module _ (counted : out_of_range max_sheets k ≡ false) where
      pub contents_outside : length book < 1 + 4 * k → book_fits book ≡ false
      contents_outside l = rw (steps_on, counted, lt-leb _ _ l)

      pub bodies_decide : 1 + 4 * k ≤ length book → book_fits book ≡ bodies_fit book k
      bodies_decide l = rw (steps_on, counted, le-leb _ _ l)

  not_refused_lem : book_fits book ≡ true → contents_refusal book ≡ 0
  unfolding contents_refusal
  not_refused_lem e = rw e

  book_fits_lem : contents_refusal book ≡ 0 → book_fits book ≡ true
  unfolding contents_refusal
  book_fits_lem z = not-false _ (when_none _ 8 z)

-- refusal 0 means that the contents keep the book's rule
pub fits : (book : List ℕ) → contents_refusal book ≡ 0 → Fits book
unfolding starts_fit
fits book z =
    let e = sym (in-steps book) ∙ book_fits_lem book z in
    let size = and_elim (not (out_of_range max_book (length book))) _ e in
    let count = and_elim (not (out_of_range max_sheets (sheet_count book))) _ size.1 in
    let there = and_elim (leb (1 + 4 * sheet_count book) (length book)) _ count.1 in
    let bodies = and_elim (starts_fit book (sheet_count book)) _ there.1 in
    let bytes = range_facts _ _ (not-true _ size.0) in
    let sheets = range_facts _ _ (not-true _ count.0) in
    record {
      some_byte = bytes.0;
      bytes_fit = bytes.1;
      some_sheet = sheets.0;
      sheets_fit = sheets.1;
      contents = leb-true _ _ there.0;
      starts = λ j l. eqb-true _ _ (all_elim _ _ bodies.0 j l);
      whole = eqb-true _ _ bodies.1;
    }

-- and a book that keeps its rule is not refused
pub accepted : (book : List ℕ) → Fits book → contents_refusal book ≡ 0
unfolding starts_fit
accepted book f =
    let starts = all_intro _ _ (λ j l. eq-eqb _ _ (f.starts j l)) in
    let bodies = and_intro starts (eq-eqb _ _ f.whole) in
    not_refused_lem book
    (bodies_decide book refl (in_range _ _ f.some_byte f.bytes_fit) (in_range _ _ f.some_sheet f.sheets_fit) f.contents ∙ bodies)
