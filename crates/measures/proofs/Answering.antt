-- What `measures` answers: a refusal, or the shares of all agents over the first entries of a list.
-- Assumes nothing.
use Prim.Native.Nat.{ℕ, ◌%◌, ◌<◌, ◌∣◌}
use mathlib.Core.Bool.{not}
use mathlib.Core.List.{List, ◌++◌}
use mathlib.Core.Path.{◌≡◌, sym, ap, ◌∙◌}
use native.Mathlib.Nat.{dvd_of_mod-eq-zero}
use native.Mathlib.Omega.{arith}
use lib.Dec.{eqb}
use lib.ListN.{length, get_or, drop, get_or-append}
use borrow.Author.Tests.{eqb-true, eq-eqb, ne_eqb, not-false}
use Rattle.finite.proofs.Tests.{cond_true, cond_false}
use Rattle.finite.proofs.Lists.{tab_length, tab_at}
use Rattle.model.specs.Sheet.{agents_of, easy_weight, difficult_weight, as_marked}
use Rattle.model.specs.MaximinShare.{maximin_share, measures_of}
use Rattle.model.specs.Refusals.{sheet_refusal, multiple_refusal, measures_refusal}
use Rattle.model.specs.Promises.{Secured, measures_over, Measured}
use Rattle.sheet.specs.Valid.{Valid}
use Rattle.sheet.proofs.OrElse.{or_else_zero, when_none}
use Rattle.sheet.proofs.Refusal.{valid}
use Rattle.measures.proofs.Shares.{secured}

module _ (s : List ℕ) where
  -- a sheet that is not turned down
  module _ (z : measures_refusal s ≡ 0) where
    pub measures_valid : Valid s
    unfolding measures_refusal
    measures_valid = valid s (or_else_zero (sheet_refusal s) _ z).0

    pub measures_divide : easy_weight s ∣ difficult_weight s
    unfolding measures_refusal multiple_refusal
    measures_divide =
        let rest = eqb (difficult_weight s % easy_weight s) 0 in
        dvd_of_mod-eq-zero (easy_weight s) (eqb-true (difficult_weight s % easy_weight s) 0 (not-false rest (when_none (not rest) 13 (or_else_zero (sheet_refusal s) _ z).1)))

    share_secured : (i : ℕ) → Secured (as_marked s) i (maximin_share (as_marked s) i)
    unfolding as_marked
    share_secured i =
        let ok = measures_valid in
        secured (as_marked s) i ok.some_agent ok.easy_positive (omega (arith, ok.easier)) measures_divide

  pub measures_long : length (measures_of s) ≡ agents_of s
  unfolding measures_of
  measures_long = tab_length (agents_of s) (maximin_share (as_marked s))

  pub measures_at : (i : ℕ) → i < agents_of s → get_or (measures_of s) i 0 ≡ maximin_share (as_marked s) i
  unfolding measures_of
  measures_at i l = tab_at (maximin_share (as_marked s)) i 0 l

  -- the numbers of the agents, in a list that has them in its first entries
  pub whole_at : (before : List ℕ) {numbers : List ℕ} → numbers ≡ measures_of s ++ drop (agents_of s) before → (i : ℕ) → i < agents_of s → get_or numbers i 0 ≡ maximin_share (as_marked s) i
  whole_at before whole i l =
      ap (λ xs. get_or xs i 0) whole ∙ get_or-append (measures_of s) (drop (agents_of s) before) 0 i (rw measures_long l) ∙ measures_at i l

  pub measured_at : (before : List ℕ) {refusal : ℕ} {numbers : List ℕ} → Measured s before refusal numbers → refusal ≡ 0 → (i : ℕ) → i < agents_of s → get_or numbers i 0 ≡ maximin_share (as_marked s) i
  unfolding measures_over
  measured_at before M none =
      let z : measures_refusal s ≡ 0 = sym M.answer ∙ none in
      whole_at before (M.numbers ∙ cond_true (measures_of s ++ drop (agents_of s) before) before (eq-eqb (measures_refusal s) 0 z))

  -- a refusal leaves the list as it was
  pub over_refused : (before : List ℕ) → (measures_refusal s ≡ 0 → ⊥) → measures_over s before ≡ before
  unfolding measures_over
  over_refused before some = cond_false _ before (ne_eqb (measures_refusal s) 0 some)

  module _ (before : List ℕ) {refusal : ℕ} (answer : refusal ≡ measures_refusal s) where
    pub turned_down : (refusal ≡ 0 → ⊥) → Measured s before refusal before
    turned_down some =
        record {
          answer = answer;
          numbers = sym (over_refused before (λ e. some (answer ∙ e)));
          secured = λ e. absurd (some e);
        }

    pub told : {numbers : List ℕ} → refusal ≡ 0 → numbers ≡ measures_of s ++ drop (agents_of s) before → Measured s before refusal numbers
    unfolding measures_over
    told none written =
        let z : measures_refusal s ≡ 0 = sym answer ∙ none in
        record {
          answer = answer;
          numbers = written ∙ sym (cond_true (measures_of s ++ drop (agents_of s) before) before (eq-eqb (measures_refusal s) 0 z));
          secured = λ _ i l. rw (whole_at before written i l) (share_secured z i);
        }
