-- An agent's row out of the sheet that holds a chore, and what it is on the joined sheet.
-- Assumes nothing.
use Prim.Native.Nat.{ℕ, ◌+◌, ◌-◌, ◌<◌}
use mathlib.Core.List.{List, []}
use mathlib.Core.Path.{◌≡◌, refl, sym, ap, subst, ◌∙◌}
use native.Mathlib.Nat.{zero-add}
use native.Mathlib.Omega.{arith}
use lib.ListN.{length}
use borrow.Author.Tests.{eq-eqb, ne_eqb}
use Rattle.finite.specs.Packed.{bit_at}
use Rattle.finite.proofs.Tests.{by_test, by_cond}
use Rattle.model.specs.Sheet.{agents_of, chores_of, row_of, is_difficult}
use Rattle.model.specs.Strands.{joined_sheet, in_first, strand_sheet, strand_marks, strand_begin}
use Rattle.model.specs.Refusals.{show_refusal}
use Rattle.model.specs.Promises.{shown_marks, MarksShown}
use Rattle.sheet.specs.Valid.{Valid, Joinable}
use Rattle.sheet.specs.Readers.{RowInSheet}
use Rattle.sheet.proofs.Marks.{row_long}
use Rattle.sheet.proofs.Strands.{mark_first, mark_second}
use Rattle.strands.proofs.Refusals.{show_joinable, show_person}

-- the sheet that holds a chore is one of two that agree
record Held (first held : List ℕ) : Type 0 where
  valid : Valid held
  agents : agents_of held ≡ agents_of first

held_one : {first second : List ℕ} (chore : ℕ) → Joinable first second → Held first (strand_sheet first second chore)
unfolding strand_sheet
held_one {first} {second} chore J =
    by_cond (Held first) (in_first first chore) first second
    (λ _. record { valid = J.valid_first; agents = refl })
    (λ _. record { valid = J.valid_second; agents = sym J.agents })

module _ (first second : List ℕ) (person chore : ℕ) where
  pub not_shown : {k : ℕ} → k ≡ show_refusal first second person chore → (k ≡ 0 → ⊥) → MarksShown first second person chore k []
  unfolding shown_marks
  not_shown {k} e h =
      record {
        answer = e;
        part = sym (rw (ne_eqb (show_refusal first second person chore) 0 (λ z. h (e ∙ z))));
        on_joined = λ z. absurd (h z);
      }

  -- where nothing is refused
  module _ (z : show_refusal first second person chore ≡ 0) where
    J : Joinable first second
    J = show_joinable first second person chore z

    agent_there : person - 1 < agents_of first
    agent_there = let here = show_person first second person chore z in omega (arith, here.0, here.1)

    -- the person has a row in the sheet that holds the chore
    module _ {held : List ℕ} (e : held ≡ strand_sheet first second chore) where
      one : Held first held
      one = subst (Held first) (sym e) (held_one chore J)

      pub held_valid : Valid held
      held_valid = one.valid

      pub held-row : {m : ℕ} → m ≡ chores_of held → RowInSheet held m (person - 1)
      held-row few = record { valid = held_valid; chores = few; agent = omega (arith, agent_there, one.agents) }

    -- a mark of that sheet is the joined sheet's, as far on as the strand begins there
    strand_mark : (c : ℕ) → c < chores_of (strand_sheet first second chore) → is_difficult (strand_sheet first second chore) (person - 1) c ≡ is_difficult (joined_sheet first second) (person - 1) (strand_begin first chore + c)
    unfolding strand_sheet strand_begin
    strand_mark c =
        by_test (in_first first chore)
        (λ e. rw (e, zero-add c) (λ l. sym (mark_first J (person - 1) c agent_there l)))
        (λ e. rw e (λ l. sym (mark_second J (person - 1) c agent_there l)))

    pub shown : {k : ℕ} {held marks : List ℕ} → k ≡ show_refusal first second person chore → held ≡ strand_sheet first second chore → marks ≡ row_of held (person - 1) → MarksShown first second person chore k marks
    unfolding shown_marks strand_marks is_difficult
    shown told e row =
        let out = row ∙ ap (λ s. row_of s (person - 1)) e in
        let there = held-row refl refl in
        record {
          answer = told;
          part = out ∙ sym (rw (eq-eqb (show_refusal first second person chore) 0 z));
          on_joined = λ _.
              record {
                size = ap length out ∙ row_long (strand_sheet first second chore) (person - 1) there.valid.long there.agent;
                mark = λ c l. ap (λ r. bit_at r c) out ∙ strand_mark c l;
              };
        }
