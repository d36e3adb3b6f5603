-- A whole book for C, told from the call on bytes.
-- Assumes nothing.
use Prim.Native.Nat.{ℕ}
use mathlib.Core.List.{List}
use mathlib.Core.Path.{◌≡◌, refl, sym}
use native.Mathlib.Nat.{le_of_lt}
use native.Mathlib.Omega.{arith}
use lib.Dec.{ltb}
use lib.ListN.{length, get_or}
use borrow.Author.Tests.{ltb-true}
use Rattle.std.specs.Prelude.{Ok, Err}
use Rattle.finite.proofs.Tests.{by_cond}
use Rattle.finite.proofs.Lists.{tab_ext}
use Rattle.model.specs.declared.Refusal.{Refusal}
use Rattle.model.specs.declared.BookResult.{BookResult}
use Rattle.model.specs.Contents.{sheet_count}
use Rattle.model.specs.RefusalNumbers.{refusal_number}
use Rattle.model.specs.Replies.{Reply, absent}
use Rattle.model.specs.Book.{takes_sheet, sheet_answer}
use Rattle.model.specs.Promises.{entry_at}
use Rattle.book.proofs.Stretches.{first_fits}
use Rattle.book.proofs.Answers.{not_refused_lem, refusal_fits}
use Rattle.cmodel.specs.Numbers.{refusal_after, moves_after, cuts_after, first_after}
use Rattle.cmodel.specs.Promises.{results, tally_after, BookInBytes, BookAllocatedInC}
use Rattle.cresults.specs.Parts.{FirstFits, FirstsFit, ResultsTold}

-- a refused book has no sheet to tell of
kept : (refusal : Refusal) (told : Reply → ℕ → ℕ) → ((before : ℕ) → told absent before ≡ before) → (before : List ℕ) → before ≡ results told (Err refusal) before
unfolding results entry_at
kept refusal told nothing before = tab_ext (length before) _ before refl (λ j l. sym (nothing (get_or before j 0)))

module _ {book owners prices scratch owners' prices' scratch' : List ℕ} where
  pub book_refused : {refusal : Refusal} {refusals moves cuts firsts tally : List ℕ} {r : ℕ} → BookInBytes book owners prices scratch owners' prices' scratch' (Err refusal) → r ≡ refusal_number refusal → BookAllocatedInC book owners prices scratch owners' prices' scratch' refusals moves cuts firsts tally refusals moves cuts firsts tally r
  unfolding tally_after
  book_refused {refusal} {refusals} {moves} {cuts} {firsts} b e =
      record {
        answer = Err refusal;
        allocated = b;
        returned = e;
        refusals_at_exit = kept refusal refusal_after (λ _. refl) refusals;
        moves_at_exit = kept refusal moves_after (λ _. refl) moves;
        cuts_at_exit = kept refusal cuts_after (λ _. refl) cuts;
        firsts_at_exit = kept refusal first_after (λ _. refl) firsts;
        tally_at_exit = refl;
      }

  module _ {shared : BookResult} (b : BookInBytes book owners prices scratch owners' prices' scratch' (Ok shared)) where
    -- the first entry of each sheet fits 32 bits
    pub tellable : FirstsFit shared
    unfolding sheet_answer
    tellable j =
        rw ((not_refused_lem b.allocated).answers j)
        (by_cond FirstFits (ltb j (sheet_count book)) _ _
        (λ below. by_cond FirstFits (takes_sheet book j) _ _
        (λ _. let few = first_fits book (refusal_fits b.allocated) j (le_of_lt (ltb-true j (sheet_count book) below)) in omega arith)
        (λ _. omega arith))
        (λ _. omega arith))

    pub book_told : {refusals moves cuts firsts tally refusals' moves' cuts' firsts' tally' : List ℕ} → ResultsTold shared refusals moves cuts firsts refusals' moves' cuts' firsts' tally' → BookAllocatedInC book owners prices scratch owners' prices' scratch' refusals moves cuts firsts tally refusals' moves' cuts' firsts' tally' 0
    unfolding tally_after
    book_told t =
        record {
          answer = Ok shared;
          allocated = b;
          returned = refl;
          refusals_at_exit = t.refusal;
          moves_at_exit = t.of_moves;
          cuts_at_exit = t.of_cuts;
          firsts_at_exit = t.first;
          tally_at_exit = t.total;
        }
