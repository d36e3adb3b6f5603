-- Laws of what is shown: the search for a wasted chore is the test for waste, and what it finds starts the walk.
-- Assumes nothing.
use Prim.Native.Nat.{ℕ, ◌<◌}
use mathlib.Core.Bool.{true, false, not, ◌&&◌}
use mathlib.Core.List.{List}
use mathlib.Core.Path.{◌≡◌, sym, ap, ◌∙◌}
use native.Mathlib.Omega.{arith}
use Rattle.std.specs.Prelude.{Option, Some, is_some}
use Rattle.finite.specs.Search.{any_below, first_below, if_below, First}
use Rattle.finite.proofs.Search.{any_cong}
use Rattle.model.specs.Instance.{owner_of}
use Rattle.model.specs.Sheet.{agents_of, chores_of, marks_easy, as_marked}
use Rattle.model.specs.Fairness.{dominated}
use Rattle.welfare.specs.Waste.{connected, waste_test}
use Rattle.welfare.proofs.Waste.{waste_exact}
use Rattle.given.specs.Given.{Given}
use Rattle.given.proofs.Found.{any_found, found_first}
use Rattle.given.proofs.Given.{owner_agent}
use Rattle.waste.specs.Rings.{no_distance, Rings}
use Rattle.waste.specs.Tests.{takes, wasted}
use Rattle.waste.specs.Walk.{Wasting}
use Rattle.waste.proofs.Tests.{takes_elim, wasted_elim}
use Rattle.waste.proofs.Rings.{rings_has}

module _ {s owners : List ℕ} (g : Given s owners) {distances : List ℕ} (rings : Rings (as_marked s) (owner_of owners) (agents_of s) distances) where
  connected-takes : (c j : ℕ) → j < agents_of s → takes s distances no_distance c j ≡ (connected (as_marked s) (owner_of owners) (agents_of s) j && marks_easy s j c)
  unfolding takes as_marked
  connected-takes c j l =
      ap (λ b. b && marks_easy s j c)
      (rings_has rings (omega (arith, g.valid.agents_fit)) j l)

  waste_search : waste_test (as_marked s) (owner_of owners) ≡ any_below (chores_of s) (wasted s owners distances)
  unfolding waste_test wasted as_marked
  waste_search =
      (any_cong (chores_of s) (λ c l. ap (λ b. not (marks_easy s (owner_of owners c) c) && b) (any_cong (agents_of s) (λ j k. sym (connected-takes c j k)))))

  module _ {o : Option ℕ} (search : o ≡ if_below (chores_of s) (first_below (chores_of s) (wasted s owners distances))) where
    pub dominated_search : is_some o ≡ dominated (as_marked s) (owner_of owners)
    unfolding as_marked
    dominated_search =
        ap is_some search ∙ any_found (chores_of s) (wasted s owners distances)
        ∙ sym (waste_exact (as_marked s) (owner_of owners) g.valid.easy_positive g.valid.easier (owner_agent g) ∙ waste_search)

  -- chore c was found, and some agent can take it
  module _ {c : ℕ} (first : Some c ≡ if_below (chores_of s) (first_below (chores_of s) (wasted s owners distances))) where
    at_first : First (chores_of s) (wasted s owners distances) c
    at_first = found_first (wasted s owners distances) first

    pub wasted_chore : c < chores_of s
    wasted_chore = at_first.below

    wasting_parts : (marks_easy s (owner_of owners c) c ≡ false) × (any_below (agents_of s) (takes s distances no_distance c) ≡ true)
    wasting_parts = wasted_elim s owners distances c at_first.passes

    module _ {q : Option ℕ} (taking : q ≡ if_below (agents_of s) (first_below (agents_of s) (takes s distances no_distance c))) where
      pub wasting_some : is_some q ≡ true
      wasting_some = ap is_some taking ∙ any_found (agents_of s) (takes s distances no_distance c) ∙ wasting_parts.1

      pub wasting : {j : ℕ} → q ≡ Some j → Wasting s owners distances c j
      wasting {j} taker =
          let taken = found_first (takes s distances no_distance c) (sym taker ∙ taking) in
          let two = takes_elim s distances no_distance c j taken.passes in
          record { chore = wasted_chore; hard = wasting_parts.0; taker = taken.below; has = two.0; easy = two.1 }
