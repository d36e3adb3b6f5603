-- What is told to C of two strands: refused, everything is kept; otherwise the promise of the Rattle call, on bytes and numbers.
-- Assumes nothing.
use Prim.Native.Nat.{ℕ, ◌+◌, ◌*◌, ◌-◌}
use mathlib.Core.Bool.{cond}
use mathlib.Core.List.{List, ◌++◌}
use mathlib.Core.Path.{◌≡◌, refl, sym, ap, ◌∙◌}
use native.Mathlib.Omega.{arith}
use lib.Dec.{eqb}
use lib.ListN.{length, take, drop}
use lib.Seq.{take_at}
use borrow.Author.Tests.{eq-eqb, ne_eqb, eqb-true, eqb-false}
use Rattle.finite.specs.Packed.{bytes_for}
use Rattle.finite.proofs.Tests.{by_test}
use Rattle.std.specs.Prelude.{Ok, Err}
use Rattle.model.specs.declared.Refusal.{Refusal}
use Rattle.model.specs.RefusalNumbers.{refusal_number}
use Rattle.model.specs.Sheet.{header_size, chores_of, row_size, row_start, row_of}
use Rattle.model.specs.Strands.{joined_sheet, strand_of, strand_sheet}
use Rattle.model.specs.Refusals.{sheet_refusal, join_refusal, show_refusal}
use Rattle.model.specs.Replies.{refused, joined}
use Rattle.model.specs.Verdicts.{unless_refused}
use Rattle.model.specs.Promises.{joined_over, SheetsJoined}
use Rattle.sheet.proofs.Marks.{row_inside}
use Rattle.strands.proofs.Showing.{held-row, shown}
use Rattle.cmodel.specs.Promises.{JoinedInC, ShownInC}

-- an answer tells whether there is a refusal, and its number or the size
module _ (k size : ℕ) where
  size_known : (s : ℕ) → joined s ≡ unless_refused k (joined size) → (k ≡ 0) × (s ≡ size)
  unfolding unless_refused
  size_known s e =
      by_test (eqb k 0)
      (λ t. let e' : joined s ≡ joined size = rw t at e in let same : s ≡ size = cc in (eqb-true k 0 t, same))
      (λ t. let e' : joined s ≡ refused k = rw t at e in let z : ◌≡◌ {A = ℕ} 0 1 = cc in absurd (omega arith))

  refusal_known : (r : ℕ) → refused r ≡ unless_refused k (joined size) → (k ≡ 0 → ⊥) × (r ≡ k)
  unfolding unless_refused
  refusal_known r e =
      by_test (eqb k 0)
      (λ t. let e' : refused r ≡ joined size = rw t at e in let z : ◌≡◌ {A = ℕ} 0 1 = cc in absurd (omega arith))
      (λ t. let e' : refused r ≡ refused k = rw t at e in let same : r ≡ k = cc in (eqb-false k 0 t, same))

module _ {first second lent lent' : List ℕ} {written : ℕ} where
  pub told_size : {size : ℕ} → SheetsJoined first second lent lent' (Ok size) → JoinedInC first second lent lent' written size 0
  unfolding joined_over
  told_size S =
      let whole = joined_sheet first second in
      let known = size_known _ _ _ S.answer in
      let made : lent' ≡ whole ++ drop (length whole) lent = S.at_exit ∙ rw (eq-eqb _ 0 known.0) in
      let front : take (length whole) lent' ≡ whole = rw made (take_at whole (drop (length whole) lent) (length whole) refl) in
      record {
        answer = sym known.0;
        at_exit = S.at_exit;
        written_at_exit = known.1;
        taken = λ _. rw (known.1, front) (S.taken known.0);
      }

  pub told_refusal : {refusal : Refusal} {k : ℕ} → SheetsJoined first second lent lent' (Err refusal) → k ≡ refusal_number refusal → JoinedInC first second lent lent' written written k
  told_refusal S is =
      let known = refusal_known _ _ _ S.answer in
      let some : refusal_number _ ≡ 0 → ⊥ = λ z. known.0 (sym known.1 ∙ z) in
      record {
        answer = is ∙ known.1;
        at_exit = S.at_exit;
        written_at_exit = sym (rw (is, ne_eqb _ 0 some));
        taken = λ z. absurd (some (sym is ∙ z));
      }

module _ (first second : List ℕ) (person chore : ℕ) where
  pub not_told : {strand start size r : ℕ} → r ≡ show_refusal first second person chore → (r ≡ 0 → ⊥) → ShownInC first second person chore strand start size strand start size r
  not_told {r = r} e h =
      record {
        answer = e;
        strand_at_exit = sym (rw (ne_eqb r 0 h));
        start_at_exit = sym (rw (ne_eqb r 0 h));
        size_at_exit = sym (rw (ne_eqb r 0 h));
        inside = λ z. absurd (h z);
        shown = λ z. absurd (h z);
      }

  pub marks_told : {strand start size strand' start' size' m : ℕ} {held : List ℕ} → show_refusal first second person chore ≡ 0 → held ≡ strand_sheet first second chore → strand' ≡ strand_of first chore → m ≡ chores_of held → start' ≡ header_size + (person - 1) * bytes_for m → size' ≡ bytes_for m → ShownInC first second person chore strand start size strand' start' size' 0
  unfolding row_of
  marks_told {start' = start'} {size'} z e number few begins wide =
      let sheet = strand_sheet first second chore in
      let many = few ∙ ap chores_of e in
      let at : start' ≡ row_start sheet (person - 1) = begins ∙ ap (λ k. header_size + (person - 1) * bytes_for k) many in
      let long : size' ≡ row_size sheet = wide ∙ ap bytes_for many in
      let there = held-row first second person chore z refl refl in
      record {
        answer = sym z;
        strand_at_exit = number;
        start_at_exit = at;
        size_at_exit = long;
        inside = λ _. rw (at, long) (row_inside sheet (person - 1) there.valid.long there.agent);
        shown = λ _. shown first second person chore z (sym z) refl (rw (at, long));
      }
