-- Laws of the first of some chores that has a trait: where one chore more, or one less, is held.
-- Assumes nothing.
use Prim.Native.Nat.{ℕ, ◌≤◌, ◌<◌}
use mathlib.Core.Bool.{Bool, true, false, not, ◌&&◌, ◌||◌, and-true, or-false}
use mathlib.Core.Path.{◌≡◌, sym, ap, ◌∙◌}
use native.Mathlib.Omega.{arith}
use lib.Dec.{eqb, ltb}
use borrow.Author.Tests.{ne_eqb, lt-ltb, le-ltb}
use Rattle.finite.specs.Search.{any_below, first_below}
use Rattle.finite.proofs.Tests.{by_test, and_intro, and_no_left, and_no_right, or_right, not_off, eqb_same}
use Rattle.finite.proofs.Below.{by_less, by_same}
use Rattle.finite.proofs.Search.{any_intro, any_cong, first_before, first_passes, first_unique}

-- of the chores held, those that have a trait
module _ (own has : ℕ → Bool) (c : ℕ) where
  -- chore c is held too, and has it not
  pub with_same : has c ≡ false → (d : ℕ) → ((own d || eqb d c) && has d) ≡ (own d && has d)
  with_same h d =
      by_same d c (λ e. rw e (and_no_right (own c || eqb c c) h ∙ sym (and_no_right (own c) h)))
      (λ ne. rw (ne_eqb d c ne, or-false (own d)))

  -- or has it
  pub with_more : has c ≡ true → (d : ℕ) → ((own d || eqb d c) && has d) ≡ (own d && has d || eqb d c)
  with_more h d =
      by_same d c (λ e. rw e (and_intro (or_right (own c) (eqb_same c)) h ∙ sym (or_right (own c && has c) (eqb_same c))))
      (λ ne. rw (ne_eqb d c ne, or-false (own d), or-false (own d && has d)))

  pub any_with : {n : ℕ} → c < n → any_below n (λ d. (own d || eqb d c) && has d) ≡ (any_below n (λ d. own d && has d) || has c)
  any_with {n} l =
      by_test (has c)
      (λ h. any_intro (λ d. (own d || eqb d c) && has d) c l (and_intro (or_right (own c) (eqb_same c)) h) ∙ sym (or_right (any_below n (λ d. own d && has d)) h))
      (λ h. any_cong n (λ d _. with_same h d) ∙ sym (ap (λ b. any_below n (λ d. own d && has d) || b) h ∙ or-false (any_below n (λ d. own d && has d))))

  -- chore c is not held
  without_here : (own c && not (eqb c c)) && has c ≡ false
  without_here = and_no_left (has c) (and_no_right (own c) (not_off (eqb_same c)))

  without_other : (d : ℕ) → (d ≡ c → ⊥) → ((own d && not (eqb d c)) && has d) ≡ (own d && has d)
  without_other d ne = rw (ne_eqb d c ne, and-true (own d))

  -- it has the trait not
  pub without_same : has c ≡ false → (d : ℕ) → ((own d && not (eqb d c)) && has d) ≡ (own d && has d)
  without_same h d = by_same d c (λ e. rw e (without_here ∙ sym (and_no_right (own c) h))) (without_other d)

  without_fails : (d : ℕ) → own d && has d ≡ false → (own d && not (eqb d c)) && has d ≡ false
  without_fails d h = by_same d c (λ e. rw e without_here) (λ ne. without_other d ne ∙ h)

  -- it was not the first with the trait
  pub without_before : {n : ℕ} → c ≤ n → first_below n (λ d. own d && has d) < c → first_below n (λ d. (own d && not (eqb d c)) && has d) ≡ first_below n (λ d. own d && has d)
  without_before {n} h l =
      let t : ℕ → Bool = λ d. own d && has d in
      let r = first_below n t in
      let b : r < n = omega arith in
      first_unique
      (record {
        below = b;
        passes = without_other r (λ e. omega arith) ∙ first_passes n t b;
        before = λ i m. without_fails i (first_before n t i m);
      })

  -- none before it has the trait: the others come after it
  pub without_after : (n : ℕ) → c ≤ first_below n (λ d. own d && has d) → (d : ℕ) → ((own d && not (eqb d c)) && has d) ≡ (ltb c d && (own d && has d))
  without_after n h d =
      by_less c d (λ l. without_other d (λ e. omega arith) ∙ sym (ap (λ b. b && (own d && has d)) (lt-ltb c d l)))
      (λ l. by_same d c (λ e. rw e without_here) (λ ne. without_fails d (first_before n (λ d. own d && has d) d (omega arith))) ∙ sym (and_no_left (own d && has d) (le-ltb c d l)))
