-- A book printed sheet by sheet, with the tally: the texts, one after the other, are the text of the book.
-- Assumes nothing.
use Prim.Native.Nat.{ℕ, zero, suc, ◌+◌, ◌≤◌, ◌<◌, zero-le}
use mathlib.Core.List.{List, ◌++◌}
use mathlib.Core.Path.{◌≡◌, refl, sym, ap, ap₂, ◌∙◌}
use native.Mathlib.Nat.{le_of_lt, le_refl}
use native.Mathlib.Numerals.{add-one}
use native.Mathlib.Omega.{arith}
use lib.Dec.{eqb}
use lib.ListN.{length}
use borrow.Author.Tests.{eq-eqb, ne_eqb, eqb-true}
use Rattle.io.proofs.Counting.{prefix_len_of_le}
use Rattle.finite.proofs.Tests.{cond-le}
use Rattle.finite.proofs.Below.{by_same}
use Rattle.finite.proofs.Sums.{sum_zero, sum_next, sum_at_most}
use Rattle.std.specs.Prelude.{Option, Result, Ok, Err, OnOk}
use Rattle.std.specs.Io.KnownBytes.{Keeps, Appends}
use Rattle.std.proofs.KnownBytes.{Appends-nil, Appends-trans, Appends-kept}
use Rattle.model.specs.declared.Refusal.{Refusal}
use Rattle.model.specs.declared.ShareOut.{ShareOut}
use Rattle.model.specs.declared.Tally.{Tally}
use Rattle.model.specs.Limits.{max_agents, max_sheets}
use Rattle.model.specs.Contents.{sheet_count, sheet_of}
use Rattle.model.specs.Algorithm.{State}
use Rattle.model.specs.MostMoves.{most_ever}
use Rattle.model.specs.Refusals.{sheet_refusal, contents_refusal}
use Rattle.contents.specs.Fits.{SheetInBook}
use Rattle.contents.proofs.Refusal.{fits}
use Rattle.allocation.specs.Final.{final_of}
use Rattle.allocation.proofs.Final.{few_moves, few_cuts}
use Rattle.tally.specs.Counting.{moves_added, cuts_added, Fitting, Counted}
use Rattle.text.specs.Text.{joined}
use Rattle.text.specs.Put.{Put}
use Rattle.text.specs.Lines.{book_refused_line, total_line}
use Rattle.pages.specs.Printer.{Printer, Unbroken, to_print, last_text, text_of, adds_of, sheet_text, tally_to, last_of, book_text}
use Rattle.pages.specs.Printing.{Shows, SheetShown, Passed}
use Rattle.pages.specs.Answered.{Answered}
use Rattle.pages.proofs.Answering.{adds_moves, adds_cuts}

-- a text put into a buffer that has room for it
pub shown : {text out out' : List ℕ} {most r : ℕ} → Put most text out 0 out' r → most ≤ length out' → Shows text out' r
shown T room = record { counts = prefix_len_of_le _ _ (omega (arith, T.few)); made = T.made }

module _ (book : List ℕ) where
  module _ (z : contents_refusal book ≡ 0) where
    pub all_printed : to_print book ≡ sheet_count book
    unfolding to_print
    all_printed = rw (eq-eqb (contents_refusal book) 0 z)

    pub ends_total : (moves cuts : ℕ) → last_text book moves cuts ≡ total_line moves cuts
    unfolding last_text
    ends_total moves cuts = rw (eq-eqb (contents_refusal book) 0 z)

  module _ (h : contents_refusal book ≡ 0 → ⊥) where
    pub none_printed : to_print book ≡ 0
    unfolding to_print
    none_printed = rw (ne_eqb (contents_refusal book) 0 h)

    pub ends_refused : (moves cuts : ℕ) → last_text book moves cuts ≡ book_refused_line (contents_refusal book)
    unfolding last_text
    ends_refused moves cuts = rw (ne_eqb (contents_refusal book) 0 h)

  -- a sheet that is to be printed is one of a book that is not refused
  pub in_book : {j : ℕ} → j < to_print book → SheetInBook book j
  in_book l =
      by_same (contents_refusal book) 0
      (λ z. record { fits = fits book z; below = omega (arith, all_printed z) })
      (λ h. absurd (omega (arith, none_printed h)))

module _ (P : Printer) (book : List ℕ) where
  pub sheet_shown : {j : ℕ} {sheet owners prices : List ℕ} {answer : Result ShareOut Refusal} (old new : Option (List ℕ)) → sheet ≡ sheet_of book j → Answered P sheet owners prices answer → Appends old new (text_of P sheet (j + 1)) → SheetShown P book j old new answer
  unfolding sheet_text
  sheet_shown {j} {answer = answer} old new same A T =
      record {
        shows = rw (← same) T;
        moves = adds_moves P answer A ∙ ap (adds_of P (λ x. x.moves)) same;
        cuts = adds_cuts P answer A ∙ ap (adds_of P (λ x. x.cuts)) same;
      }

  -- how much a sheet adds to the tally at most
  adds_few : Unbroken P → (counted : State → ℕ) (top : ℕ) → ((s : List ℕ) → sheet_refusal s ≡ 0 → counted (final_of s) ≤ top) → (s : List ℕ) → adds_of P counted s ≤ top
  unfolding adds_of
  adds_few unbroken counted top few s = cond-le (eqb (P.refusal s) 0) (λ t. few s (unbroken s (eqb-true (P.refusal s) 0 t))) (λ t. zero-le)

  -- before any sheet
  pub begin : (old : Option (List ℕ)) {total : Tally} → (total.moves ≡ 0) × (total.cuts ≡ 0) → Passed P book old old total 0
  unfolding tally_to joined
  begin old none = record { within = zero-le; shows = Appends-nil old; moves = none.0 ∙ sym (sum_zero _); cuts = none.1 ∙ sym (sum_zero _) }

  -- from sheet to sheet
  module _ {old now new : Option (List ℕ)} {total : Tally} {j : ℕ} {answer : Result ShareOut Refusal} (l : j < to_print book) (Q : Passed P book old now total j) (S : SheetShown P book j now new answer) where
    pub fitting : Unbroken P → Fitting total (moves_added answer) (cuts_added answer)
    unfolding tally_to
    fitting unbroken =
        let I = in_book book l in
        let moved = adds_few unbroken (λ x. x.moves) most_ever few_moves in
        let cut = adds_few unbroken (λ x. x.cuts) max_agents (λ s z. le_of_lt (few_cuts s z)) in
        let few : j < max_sheets = omega (arith, I.below, I.fits.sheets_fit) in
        record {
          moves = omega (arith, Q.moves, S.moves, moved (sheet_of book j), sum_at_most j most_ever (λ i m. moved (sheet_of book i)));
          cuts = omega (arith, Q.cuts, S.cuts, cut (sheet_of book j), sum_at_most j max_agents (λ i m. cut (sheet_of book i)));
        }

    pub onward : (flushed : Option (List ℕ)) {total' : Tally} → Keeps new flushed → Counted total (moves_added answer) (cuts_added answer) total' → Passed P book old flushed total' (j + 1)
    unfolding tally_to joined
    onward flushed kept C =
        record {
          within = omega arith;
          shows = rw add-one (Appends-kept old new flushed _ (Appends-trans old now new _ _ Q.shows S.shows) kept);
          moves = C.moves ∙ rw (Q.moves, S.moves, sum_next);
          cuts = C.cuts ∙ rw (Q.cuts, S.cuts, sum_next);
        }

  -- after all of them
  whole : (old now new : Option (List ℕ)) {total : Tally} {j : ℕ} → Passed P book old now total j → to_print book ≤ j → Appends now new (last_text book total.moves total.cuts) → Appends old new (book_text P book)
  unfolding last_of book_text
  whole old now new {j = j} Q l L =
      let all : j ≡ to_print book = omega (arith, Q.within) in
      Appends-trans old now new _ _ (rw all at Q.shows) (rw (Q.moves, Q.cuts, all) at L)

  -- whatever the last flush answers
  pub end : (old now new flushed : Option (List ℕ)) {total : Tally} {j : ℕ} {T E : Type 0} (r : Result T E) → Passed P book old now total j → to_print book ≤ j → Appends now new (last_text book total.moves total.cuts) → Keeps new flushed → OnOk r (Appends old flushed (book_text P book))
  end old now new flushed (Err e) Q l L kept = tt
  end old now new flushed (Ok x) Q l L kept = Appends-kept old new flushed _ (whole old now new Q l L) kept

  joined_are : (texts : ℕ → List ℕ) → ((j : ℕ) → j < to_print book → texts j ≡ sheet_text P book j) → (k : ℕ) → k ≤ to_print book → joined texts k ≡ joined (sheet_text P book) k
  unfolding joined
  joined_are texts e zero l = refl
  joined_are texts e (suc k) l = ap₂ ◌++◌ (joined_are texts e k (omega arith)) (e k l)

  -- texts that are as promised for each sheet, and a last one after them
  module _ (texts : ℕ → List ℕ) (last : List ℕ) (e : (j : ℕ) → j < to_print book → texts j ≡ sheet_text P book j) (q : last ≡ last_of P book) where
    abbrev pub printed : List ℕ
    printed = joined texts (to_print book) ++ last

    pub whole_text : contents_refusal book ≡ 0 → printed ≡ joined (sheet_text P book) (sheet_count book) ++ total_line (tally_to P book (λ x. x.moves) (sheet_count book)) (tally_to P book (λ x. x.cuts) (sheet_count book))
    unfolding last_of
    whole_text z = ap₂ ◌++◌ (joined_are texts e (to_print book) (le_refl _)) (q ∙ ends_total book z _ _) ∙ rw (all_printed book z)

    pub refused_text : (contents_refusal book ≡ 0 → ⊥) → printed ≡ book_refused_line (contents_refusal book)
    unfolding joined last_of
    refused_text h = rw (none_printed book h) (q ∙ ends_refused book h _ _)
