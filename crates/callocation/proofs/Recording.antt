-- The share-out with a record on bytes, told from the one on numbers.
-- Assumes nothing.
use Prim.Native.Nat.{ℕ}
use mathlib.Core.List.{List, ◌++◌}
use mathlib.Core.Path.{◌≡◌, sym, ap, ◌∙◌}
use lib.ListN.{length}
use borrow.Author.Tests.{ne_eqb}
use Rattle.finite.proofs.Tests.{cond_false}
use Rattle.finite.proofs.Below.{by_same}
use Rattle.std.specs.Prelude.{Result}
use Rattle.model.specs.declared.Refusal.{Refusal}
use Rattle.model.specs.declared.ShareOut.{ShareOut}
use Rattle.model.specs.Refusals.{◌or_else◌, record_refusal, recorded_refusal}
use Rattle.model.specs.Replies.{share_out_reply}
use Rattle.model.specs.Promises.{Allocated, Written, Recorded}
use Rattle.sheet.proofs.Refusal.{recorded_taken}
use Rattle.pricebytes.specs.PriceBytes.{prices_in}
use Rattle.pricebytes.proofs.Reading.{prices_count}
use Rattle.cmodel.specs.Numbers.{refusal_in, moves_after, cuts_after}
use Rattle.cmodel.specs.Promises.{RecordedInC}
use Rattle.callocation.specs.Telling.{Tellable, ToldOut}
use Rattle.callocation.proofs.Lending.{same_refusal, Lent, tellable, told_in_c}

module _ {s owners scratch lent owners' scratch' lent' bytes xs xs' rest : List ℕ} {answer : Result ShareOut Refusal} (L : Lent bytes xs xs' rest) (R : Recorded s owners xs scratch lent owners' xs' scratch' lent' answer) where
  abbrev refusal : ℕ → ℕ
  refusal prices =
      recorded_refusal s (length owners) prices (length scratch) (length R.moves) (length lent)

  -- the number that is returned is the refusal
  answered : refusal_in (share_out_reply answer) ≡ refusal (length xs)
  answered =
      by_same (refusal (length xs)) 0
      (λ e.
      let taken = recorded_taken s (length owners) (length xs) (length scratch) (length R.moves) (length lent) e in
      ap refusal_in ((R.not_refused e).0.not_refused taken.0).answer ∙ sym e)
      (λ h. ap refusal_in (R.turned_down h).0.answer)

  -- all prices would have been turned down alike
  whole_list : refusal (length xs) ≡ refusal (length (prices_in bytes))
  unfolding recorded_refusal
  whole_list =
      ap (λ k. k or_else record_refusal (length R.moves) (length lent))
      (same_refusal s (length owners) (length scratch) (length (prices_in bytes)) (rw (prices_count bytes) L.short))

  not_refused_lem : refusal_in (share_out_reply answer) ≡ 0 → Allocated s owners xs scratch owners' xs' scratch' answer × Written R.moves lent lent'
  not_refused_lem z = R.not_refused (sym answered ∙ z)

  pub tellable_too : Tellable s answer (xs' ++ rest) bytes
  tellable_too =
      record { header = λ z. (tellable L (not_refused_lem z).0).header z; room = λ z. (tellable L (not_refused_lem z).0).room z }

  pub recorded_in_c : {bytes' : List ℕ} {moves cuts moves' cuts' r : ℕ} → ToldOut s answer (xs' ++ rest) bytes bytes' moves cuts moves' cuts' r → RecordedInC s owners bytes scratch lent owners' bytes' scratch' lent' moves cuts moves' cuts' r
  recorded_in_c {moves = moves} {cuts} {r = r} T =
      let returned = T.told.returned in
      record {
        made = R.moves;
        run = R.run;
        answer = returned ∙ answered ∙ whole_list;
        not_refused = λ e. let both = not_refused_lem (sym returned ∙ e) in (told_in_c L both.0 T, both.1);
        turned_down =
            λ h.
            let kept = R.turned_down (λ e. h (returned ∙ answered ∙ e)) in
            record {
              owners_kept = kept.0.owners_kept;
              prices_kept = T.bytes ∙ cond_false _ _ (ne_eqb r 0 h);
              scratch_kept = kept.0.scratch_kept;
              record_kept = kept.1;
              moves_kept = T.told.moves_at_exit ∙ ap (λ reply. moves_after reply moves) kept.0.answer;
              cuts_kept = T.told.cuts_at_exit ∙ ap (λ reply. cuts_after reply cuts) kept.0.answer;
            };
      }
