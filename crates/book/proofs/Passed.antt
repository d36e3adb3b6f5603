-- Laws of the loop's invariant over the sheets of a book: before any sheet, from sheet to sheet, and at the end.
-- Assumes nothing.
use Prim.Native.Nat.{ℕ, ◌+◌, ◌≤◌, ◌<◌, zero-le}
use mathlib.Core.Bool.{cond}
use mathlib.Core.List.{List}
use mathlib.Core.Path.{◌≡◌, refl, sym, ap, ◌∙◌}
use native.Mathlib.Nat.{one-mul, le_of_lt}
use native.Mathlib.Omega.{arith}
use lib.Dec.{eqb, ltb}
use lib.ListN.{length, set, length-set}
use borrow.Author.Tests.{lt-ltb, le-ltb, eqb-true}
use Rattle.finite.specs.Sums.{sum_to}
use Rattle.finite.proofs.Tests.{by_test, by_cond}
use Rattle.finite.proofs.Below.{by_less, by_same}
use Rattle.finite.proofs.Sums.{sum_zero, sum_next, sum_mono, sum_at_most}
use Rattle.std.specs.Prelude.{Option, Some, Result}
use Rattle.model.specs.declared.Refusal.{Refusal}
use Rattle.model.specs.declared.Tally.{Tally}
use Rattle.model.specs.declared.ShareOut.{ShareOut}
use Rattle.model.specs.declared.SheetShare.{SheetShare}
use Rattle.model.specs.Limits.{max_agents, max_chores, max_sheets, book_entries}
use Rattle.model.specs.Contents.{sheet_count, sheet_of}
use Rattle.model.specs.Algorithm.{State}
use Rattle.model.specs.MostMoves.{most_ever}
use Rattle.model.specs.Refusals.{sheet_refusal}
use Rattle.model.specs.Replies.{absent, sheet_reply, reply_at}
use Rattle.model.specs.Book.{own_refusal, takes_sheet, first_entry, sheet_answer, long_list, over_accepted, tally_of, most_in_book}
use Rattle.allocation.specs.Final.{accepts, final_of}
use Rattle.allocation.proofs.Final.{accepted, final_demand3, final_few, few_moves, few_cuts}
use Rattle.tally.specs.Counting.{moves_added, cuts_added, Fitting, Counted}
use Rattle.pricebytes.specs.PriceBytes.{prices_in}
use Rattle.book.specs.Said.{placed}
use Rattle.book.specs.Finals.{finals_of, owner_bytes, price_bytes}
use Rattle.book.specs.Steps.{no_entries, Taken, Room, RestShared, Fine, SharedInBytes}
use Rattle.book.specs.Passed.{told, counts, long_after, Passed}
use Rattle.book.proofs.Results.{none_at, reply_new, reply_kept, Parts}
use Rattle.book.proofs.Finals.{owners_sized_lem, prices_sized_lem, answer_parts, taken}
use Rattle.book.proofs.Stretches.{first_zero, first_next, first_few, first_fits, long_zero, long_kept, long_next, bytes_after}

-- a bound of one more lets in one number more
one_more : {j : ℕ} (i : ℕ) → (i ≡ j → ⊥) → ltb i j ≡ ltb i (j + 1)
one_more {j} i ne =
    by_less i j (λ l. rw (lt-ltb i j l, lt-ltb i (j + 1) (omega arith))) (λ l. rw (le-ltb i j l, le-ltb i (j + 1) (omega arith)))

module _ (book : List ℕ) where
  counts_few : (counted : State → ℕ) (top : ℕ) → ((s : List ℕ) → sheet_refusal s ≡ 0 → counted (final_of s) ≤ top) → (i : ℕ) → counts book counted i ≤ top
  unfolding counts finals_of
  counts_few counted top few i =
      by_cond (λ v. v ≤ top) (accepts (sheet_of book i)) (counted (final_of (sheet_of book i))) 0 (λ e. few (sheet_of book i) (accepted (sheet_of book i) e)) (λ e. zero-le)

  -- the sheets' bounds together bound the tally
  tally_few : sum_to (sheet_count book) (counts book (λ x. x.moves)) ≤ most_in_book book
  unfolding counts finals_of over_accepted most_in_book takes_sheet own_refusal accepts
  tally_few =
      sum_mono (sheet_count book) λ i l.
      by_test (eqb (sheet_refusal (sheet_of book i)) 0)
      (λ t. rw t (final_few (sheet_of book i) (eqb-true _ 0 t)).in_all)
      (λ t. rw t zero-le)

  -- before any sheet
  pub begin : {owners prices scratch : List ℕ} {total : Tally} → (total.moves ≡ 0) × (total.cuts ≡ 0) → Passed book owners prices scratch owners prices scratch no_entries total 0 0
  begin none =
      record {
        within = zero-le;
        first_free = sym (first_zero book);
        size = refl;
        answers = λ i. none_at i ∙ rw (le-ltb i 0 zero-le);
        moves = none.0 ∙ sym (sum_zero _);
        cuts = none.1 ∙ sym (sum_zero _);
        owners_now = long_zero book 1 owner_bytes _;
        prices_now = long_zero book 4 price_bytes _;
        scratch_now = refl;
      }

  module _ {lent_owners lent_prices lent_scratch numbers owners prices scratch : List ℕ} {sheets : List (Option (Result SheetShare Refusal))} {total : Tally} {first j : ℕ} (F : Fine book lent_owners lent_prices lent_scratch numbers) (P : Passed book lent_owners lent_prices lent_scratch owners prices scratch sheets total first j) where
    reach : first_entry book j ≤ book_entries
    reach = first_fits book F.fits j P.within

    pub owners_kept_lem : length owners ≡ length lent_owners
    owners_kept_lem = ap length P.owners_now ∙ long_kept book 1 owner_bytes owners_sized_lem j lent_owners (omega (arith, reach, F.owners_fit))

    pub prices_kept_lem : length prices ≡ length lent_prices
    prices_kept_lem = ap length P.prices_now ∙ long_kept book 4 price_bytes prices_sized_lem j lent_prices (omega (arith, reach, F.prices_fit))

    module _ (l : j < sheet_count book) where
      pub room : {numbers' : List ℕ} → length numbers' ≡ length numbers → Room first owners prices scratch numbers'
      room same =
          let last : first + max_chores ≤ book_entries = omega (arith, first_few book j, P.first_free, F.fits.sheets_fit) in
          record {
            owners_fit = omega (arith, owners_kept_lem, F.owners_fit);
            prices_fit = omega (arith, prices_kept_lem, F.prices_fit);
            scratch_fits = rw P.scratch_now F.scratch_fits;
            numbers_fit = same ∙ F.numbers_fit;
          }

      -- what the answer of sheet j says, and what follows of it
      module _ {sheet owners' prices' scratch' : List ℕ} {out : Result ShareOut Refusal} (same : sheet ≡ sheet_of book j) (D : RestShared sheet first owners prices scratch owners' prices' scratch' out) where
        here : Parts out (accepts (sheet_of book j)) (finals_of book j).moves (finals_of book j).cuts (own_refusal book j)
        unfolding finals_of own_refusal
        here = answer_parts (sheet_of book j) (rw same at D.answer)

        pub fitting : Fitting total (moves_added out) (cuts_added out)
        unfolding counts
        fitting =
            let moved = counts_few (λ x. x.moves) most_ever few_moves in
            let cut = counts_few (λ x. x.cuts) max_agents (λ s z. le_of_lt (few_cuts s z)) in
            let few : j < max_sheets = omega (arith, F.fits.sheets_fit) in
            record {
              moves = omega (arith, P.moves, here.moves_are, moved j, sum_at_most j most_ever (λ i m. moved i));
              cuts = omega (arith, P.cuts, here.cuts_are, cut j, sum_at_most j max_agents (λ i m. cut i));
            }

        module _ {n : ℕ} (T : Taken sheet out n) where
          next_free : first + n ≡ first_entry book (j + 1)
          next_free = rw (first_next book j, P.first_free, taken sheet D.answer T, same)

          next_fits : first_entry book (j + 1) ≤ book_entries
          next_fits = first_fits book F.fits (j + 1) (omega arith)

          pub still_fits : first + n ≤ book_entries
          still_fits = rw next_free next_fits

          module _ (new : Result SheetShare Refusal) {total' : Tally} (E : sheet_reply (Some new) ≡ placed first out) (C : Counted total (moves_added out) (cuts_added out) total') where
            told_now : sheet_reply (Some new) ≡ told book j
            unfolding told
            told_now = E ∙ here.place first ∙ rw P.first_free

            replies : (i : ℕ) → reply_at (set sheets j (Some new)) i ≡ cond (ltb i (j + 1)) (told book i) absent
            replies i =
                by_same i j
                (λ e. rw (e, lt-ltb j (j + 1) (omega arith)) (reply_new sheets j new (omega (arith, P.size, F.fits.sheets_fit)) ∙ told_now))
                (λ ne. reply_kept sheets j new i ne ∙ P.answers i ∙ ap (λ t. cond t (told book i) absent) (one_more i ne))

            pub onward : Passed book lent_owners lent_prices lent_scratch owners' prices' scratch' (set sheets j (Some new)) total' (first + n) (j + 1)
            unfolding counts
            onward =
                record {
                  within = omega arith;
                  first_free = next_free;
                  size = simp length-set P.size;
                  answers = replies;
                  moves = C.moves ∙ rw (P.moves, here.moves_are, sum_next);
                  cuts = C.cuts ∙ rw (P.cuts, here.cuts_are, sum_next);
                  owners_now = D.owners_after ∙ rw (P.owners_now, P.first_free, same) (rw one-mul at (long_next book 1 owner_bytes owners_sized_lem j lent_owners (omega (arith, next_fits, F.owners_fit))));
                  prices_now = D.prices_after ∙ rw (P.prices_now, P.first_free, same) (long_next book 4 price_bytes prices_sized_lem j lent_prices (omega (arith, next_fits, F.prices_fit)));
                  scratch_now = D.zeros (rw P.scratch_now F.cleared) ∙ P.scratch_now;
                }

    -- when all sheets have passed
    pub finish : j ≡ sheet_count book → (k : ℕ) → k ≡ sheet_count book → SharedInBytes book lent_owners lent_prices lent_scratch owners prices scratch (record { count = k; sheets = sheets; tally = total })
    unfolding sheet_answer long_list over_accepted tally_of takes_sheet own_refusal accepts told counts long_after finals_of
    finish e k counted =
        record {
          numbers = long_list book (finals_of book) (λ x. x.prices) (prices_in lent_prices);
          shared =
              record {
                finals = finals_of book;
                demand3 = λ i l t. final_demand3 (sheet_of book i) (eqb-true (sheet_refusal (sheet_of book i)) 0 t);
                few = λ i l t. final_few (sheet_of book i) (eqb-true (sheet_refusal (sheet_of book i)) 0 t);
                few_in_all = omega (arith, rw e at P.moves, tally_few);
                count = counted;
                answers = rw e at P.answers;
                moves = rw e at P.moves;
                cuts = rw e at P.cuts;
                owners_at_exit = rw (e, one-mul) at P.owners_now;
                prices_at_exit = refl;
                zeros = P.scratch_now ∙ F.cleared;
              };
          bytes = rw e at P.prices_now ∙ bytes_after book (sheet_count book) lent_prices;
        }
