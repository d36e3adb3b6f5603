-- Laws of burdens: the test, and what the search for one says of a burdened agent.
-- Assumes nothing.
use Prim.Native.Nat.{ℕ}
use mathlib.Core.Bool.{true, false, not}
use mathlib.Core.List.{List}
use mathlib.Core.Path.{◌≡◌, refl, sym, ap, ◌∙◌}
use borrow.Author.Tests.{not-true}
use Rattle.std.specs.Prelude.{Option, is_some}
use Rattle.finite.specs.Search.{any_below, first_below, if_below}
use Rattle.finite.proofs.Tests.{by_test, and_elim, and_intro, and_no_left, and_no_right, not_on, not_off}
use Rattle.model.specs.Instance.{owner_of}
use Rattle.model.specs.Sheet.{chores_of, is_difficult, marks_easy, as_marked}
use Rattle.model.specs.Fairness.{owns}
use Rattle.welfare.specs.Waste.{burdened}
use Rattle.welfare.proofs.Costs.{owned, owned_by, owned_not}
use Rattle.given.specs.Burdens.{burdens}
use Rattle.given.proofs.Found.{any_found}

module _ (s owners : List ℕ) (i c : ℕ) where
  pub burdens_hit : owner_of owners c ≡ i → marks_easy s i c ≡ false → burdens s owners i c ≡ true
  unfolding burdens
  burdens_hit mine hard = and_intro (owned_by (owner_of owners) i c mine) (not_on hard)

  pub burdens_elim : burdens s owners i c ≡ true → (owner_of owners c ≡ i) × (marks_easy s i c ≡ false)
  unfolding burdens
  burdens_elim e =
      let both = and_elim (owns (owner_of owners) i c) (not (marks_easy s i c)) e in
      (owned (owner_of owners) i c both.0, not-true (marks_easy s i c) both.1)

  pub burdens_other : (owner_of owners c ≡ i → ⊥) → burdens s owners i c ≡ false
  unfolding burdens
  burdens_other other = and_no_left _ (owned_not (owner_of owners) i c other)

  pub burdens_easy : marks_easy s i c ≡ true → burdens s owners i c ≡ false
  unfolding burdens
  burdens_easy easy = and_no_right (owns (owner_of owners) i c) (not_off easy)

  -- a chore of its own is difficult as its mark says
  pub burdens_mark : owner_of owners c ≡ i → burdens s owners i c ≡ is_difficult s i c
  unfolding marks_easy
  burdens_mark mine =
      by_test (is_difficult s i c)
      (λ h. burdens_hit mine (not_off h) ∙ sym h)
      (λ h. burdens_easy (not_on h) ∙ sym h)

module _ (s owners : List ℕ) (i : ℕ) where
  -- an agent is burdened where some chore burdens it
  pub burdened_any : burdened (as_marked s) (owner_of owners) i ≡ any_below (chores_of s) (burdens s owners i)
  unfolding burdened as_marked burdens
  burdened_any = refl

  -- so where the search for one finds it
  pub burdened_found : {r : Option ℕ} → r ≡ if_below (chores_of s) (first_below (chores_of s) (burdens s owners i)) → is_some r ≡ burdened (as_marked s) (owner_of owners) i
  burdened_found e = ap is_some e ∙ any_found (chores_of s) (burdens s owners i) ∙ sym burdened_any
