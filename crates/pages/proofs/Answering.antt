-- What a share-out promises, for a sheet to whose share-out lists of enough entries are lent; and the text of that sheet.
-- Assumes nothing.
use Prim.Native.Nat.{ℕ, ◌≤◌}
use mathlib.Core.List.{List}
use mathlib.Core.Path.{◌≡◌, refl, sym, ap, ◌∙◌}
use native.Mathlib.Omega.{arith}
use lib.ListN.{length}
use borrow.Author.Tests.{eq-eqb, ne_eqb}
use Rattle.finite.proofs.Below.{by_same}
use Rattle.std.specs.Prelude.{Result, Ok, Err}
use Rattle.model.specs.declared.Refusal.{Refusal}
use Rattle.model.specs.declared.ShareOut.{ShareOut}
use Rattle.model.specs.Limits.{max_chores}
use Rattle.model.specs.Algorithm.{State}
use Rattle.model.specs.Refusals.{sheet_refusal}
use Rattle.model.specs.RefusalNumbers.{refusal_number}
use Rattle.model.specs.Replies.{share_out_reply, refused, shared}
use Rattle.model.specs.Promises.{SharedOut, NotShared}
use Rattle.sheet.proofs.Refusal.{valid}
use Rattle.allocation.specs.Final.{final_of}
use Rattle.allocation.proofs.Final.{final_demand3}
use Rattle.text.specs.Lines.{refused_line}
use Rattle.tally.specs.Counting.{moves_added, cuts_added}
use Rattle.pages.specs.Printer.{Printer, Unbroken, text_of, adds_of}
use Rattle.pages.specs.Answered.{Left, TurnedDown, Answered}

-- a share-out is turned down with its number, or comes back with its final state
module _ (P : Printer) (unbroken : Unbroken P) {s owners prices scratch owners' prices' scratch' : List ℕ} {number : ℕ} {r : Result ShareOut Refusal} (is : number ≡ P.refusal s) (some : number ≡ 0 → SharedOut s owners prices scratch owners' prices' scratch' r) (none : (number ≡ 0 → ⊥) → NotShared number owners prices scratch owners' prices' scratch' r) where
  module _ (z : number ≡ 0) where
    taken : sheet_refusal s ≡ 0
    taken = unbroken s (sym is ∙ z)

    -- Algorithm 1 ends in one state
    final_is : (some z).final ≡ final_of s
    final_is = (final_demand3 s taken).only (some z).final (some z).demand3.ends

    answer_is : share_out_reply r ≡ shared (final_of s).moves (final_of s).cuts
    answer_is = (some z).answer ∙ ap (λ (x : State). shared x.moves x.cuts) final_is

  module _ (o : max_chores ≤ length owners') (p : max_chores ≤ length prices') where
    left : number ≡ 0 → (out : ShareOut) → r ≡ Ok out → Left P s out.moves out.cuts owners' prices'
    left z out e =
        let v = valid s (taken z) in
        let q : shared out.moves out.cuts ≡ shared (final_of s).moves (final_of s).cuts = sym (ap share_out_reply e) ∙ answer_is z in
        record {
          accepted = sym is ∙ z;
          owners_fit = omega (arith, v.chores_fit);
          prices_fit = omega (arith, v.chores_fit);
          ran = record {
            valid = v;
            count_is = cc;
            cuts_are = cc;
            owners_are = (some z).owners_written ∙ ap (λ x. x.owners) (final_is z);
            prices_are = (some z).prices_written ∙ ap (λ x. x.prices) (final_is z);
          };
        }

    pub answered : Answered P s owners' prices' r
    answered =
        by_same number 0
        (λ z.
        record {
          turned_down = λ k e. let q : refused (refusal_number k) ≡ shared (final_of s).moves (final_of s).cuts = sym (ap share_out_reply e) ∙ answer_is z in let w : ◌≡◌ {A = ℕ} 0 1 = cc in absurd (omega arith);
          shared_out = left z;
        })
        (λ h.
        record {
          turned_down = λ k e. let q : refused (refusal_number k) ≡ refused number = sym (ap share_out_reply e) ∙ (none h).answer in let same : refusal_number k ≡ number = cc in record { number = same ∙ is; some = λ w. h (sym same ∙ w) };
          shared_out = λ out e. let q : shared out.moves out.cuts ≡ refused number = sym (ap share_out_reply e) ∙ (none h).answer in let w : ◌≡◌ {A = ℕ} 0 1 = cc in absurd (omega arith);
        })

-- the text of a sheet: that of its refusal, or its lines
module _ (P : Printer) (s : List ℕ) (number : ℕ) where
  pub refused_text : {k : ℕ} → TurnedDown P s k → text_of P s number ≡ refused_line number k
  unfolding text_of
  refused_text D = rw (ne_eqb (P.refusal s) 0 (λ z. D.some (D.number ∙ z)), D.number)

  pub accepted_text : P.refusal s ≡ 0 → text_of P s number ≡ P.lines s number
  unfolding text_of
  accepted_text z = rw (eq-eqb (P.refusal s) 0 z)

-- what an answer adds to the tally: `told` is what it says of what is counted
module _ (P : Printer) {s owners prices : List ℕ} where
  adds_told : (told : Result ShareOut Refusal → ℕ) (counted : State → ℕ) → ((k : Refusal) → told (Err k) ≡ 0) → ((out : ShareOut) → out.moves ≡ (final_of s).moves → out.cuts ≡ (final_of s).cuts → told (Ok out) ≡ counted (final_of s)) → (answer : Result ShareOut Refusal) → Answered P s owners prices answer → told answer ≡ adds_of P counted s
  unfolding adds_of
  adds_told told counted none some (Err k) A =
      let down = A.turned_down k refl in
      rw (ne_eqb (P.refusal s) 0 (λ z. down.some (down.number ∙ z))) (none k)
  adds_told told counted none some (Ok out) A =
      let L = A.shared_out out refl in
      rw (eq-eqb (P.refusal s) 0 L.accepted) (some out L.ran.count_is L.ran.cuts_are)

  pub adds_moves : (answer : Result ShareOut Refusal) → Answered P s owners prices answer → moves_added answer ≡ adds_of P (λ x. x.moves) s
  adds_moves = adds_told moves_added (λ x. x.moves) (λ k. refl) (λ out e f. e)

  pub adds_cuts : (answer : Result ShareOut Refusal) → Answered P s owners prices answer → cuts_added answer ≡ adds_of P (λ x. x.cuts) s
  adds_cuts = adds_told cuts_added (λ x. x.cuts) (λ k. refl) (λ out e f. f)
