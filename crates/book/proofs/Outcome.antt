-- The whole call: what a book that is not turned down means for what is lent, and the call's promise in its two cases.
-- Assumes nothing.
use Prim.Native.Nat.{ℕ, ◌/◌}
use mathlib.Core.List.{List}
use mathlib.Core.Path.{◌≡◌, refl, sym, ap, ◌∙◌}
use native.Mathlib.Omega.{arith}
use lib.ListN.{length, replicate, length-replicate}
use borrow.Author.Tests.{ne_eqb}
use Rattle.std.specs.Prelude.{Result, Ok}
use Rattle.model.specs.declared.Refusal.{Refusal}
use Rattle.model.specs.declared.BookResult.{BookResult}
use Rattle.model.specs.Limits.{max_chores}
use Rattle.model.specs.RefusalNumbers.{refusal_number}
use Rattle.model.specs.Refusals.{book_refusal}
use Rattle.model.specs.Promises.{entry_at}
use Rattle.model.proofs.Refusing.{Left}
use Rattle.sheet.proofs.OrElse.{or_else_zero}
use Rattle.sheet.proofs.Refusal.{lent_room}
use Rattle.contents.proofs.Refusal.{fits}
use Rattle.pricebytes.specs.PriceBytes.{prices_in}
use Rattle.pricebytes.proofs.Reading.{prices_count}
use Rattle.cmodel.specs.Promises.{BookInBytes}
use Rattle.book.specs.Steps.{Fine, SharedInBytes}

module _ (book owners prices scratch : List ℕ) where
  abbrev number : ℕ
  number = book_refusal book (length owners) (length prices / 4) (length scratch)

  -- the number for so many prices
  is : number ≡ book_refusal book (length owners) (length (prices_in prices)) (length scratch)
  is = rw (prices_count prices)

  pub fine_book : number ≡ 0 → {scratch' numbers : List ℕ} → scratch' ≡ replicate (length scratch) 0 → length numbers ≡ max_chores → Fine book owners prices scratch' numbers
  unfolding book_refusal
  fine_book z {scratch'} e many =
      let one = or_else_zero _ _ z in
      let two = or_else_zero _ _ one.1 in
      let three = or_else_zero _ _ two.1 in
      let same : length scratch' ≡ length scratch = ap length e ∙ length-replicate (length scratch) 0 in
      record {
        fits = fits book one.0;
        owners_fit = lent_room two.0;
        prices_fit = omega (arith, lent_room three.0);
        scratch_fits = rw same (lent_room three.1);
        cleared = e ∙ rw same;
        numbers_fit = many;
      }

  pub book_refused : {r : Result BookResult Refusal} → Left r number → BookInBytes book owners prices scratch owners prices scratch r
  unfolding entry_at
  book_refused L =
      let turned : number ≡ 0 → ⊥ = λ z. let p = L.positive in omega (arith, z, p) in
      rw L.is
      (record {
        numbers = prices_in prices;
        allocated =
            record {
              not_refused = λ z. absurd (turned (is ∙ z));
              turned_down = λ _. record { refusal = L.number ∙ is; answers = λ j. refl; owners_kept = refl; prices_kept = refl; scratch_kept = refl };
            };
        bytes = sym (rw (ne_eqb (refusal_number L.refusal) 0 (λ e. turned (sym L.number ∙ e))));
      })

  pub book_shared : {out : BookResult} {cleared owners' prices' scratch' : List ℕ} → number ≡ 0 → cleared ≡ replicate (length scratch) 0 → SharedInBytes book owners prices cleared owners' prices' scratch' out → BookInBytes book owners prices scratch owners' prices' scratch' (Ok out)
  book_shared {out} {cleared = cleared} z e B =
      let same : length cleared ≡ length scratch = ap length e ∙ length-replicate (length scratch) 0 in
      let S = B.shared in
      record {
        numbers = B.numbers;
        allocated =
            record {
              not_refused = λ _. (
                out,
                refl,
                record {
                  finals = S.finals;
                  demand3 = S.demand3;
                  few = S.few;
                  few_in_all = S.few_in_all;
                  count = S.count;
                  answers = S.answers;
                  moves = S.moves;
                  cuts = S.cuts;
                  owners_at_exit = S.owners_at_exit;
                  prices_at_exit = S.prices_at_exit;
                  zeros = rw same at S.zeros;
                },
              );
              turned_down = λ h. absurd (h (sym is ∙ z));
            };
        bytes = B.bytes;
      }
