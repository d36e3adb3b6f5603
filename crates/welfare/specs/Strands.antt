-- Document 02, request 4: what desks rely on where a list of the joined sheet is cut in two at the seam. The law `parts-kept` says that this
-- holds of every two strands that can be joined.
use Rattle.std.specs.Prelude.{ℕ, true, false, List, ◌≡◌, take, drop}
use Rattle.model.specs.Instance.{owner_of}
use Rattle.model.specs.Sheet.{chores_of, as_marked}
use Rattle.model.specs.Strands.{joined_sheet}
use Rattle.model.specs.Fairness.{is_allocation, dominated}
use Rattle.model.specs.Algorithm.{State}
use Rattle.model.specs.Promises.{Demand3}

-- "neither strand's part of it is wasteful on its own sheet": each part is a list of its own sheet, and no list of that sheet dominates it
pub record PartsNotWasteful (first second owners : List ℕ) : Type 0 where
  pub first_part : is_allocation (as_marked first) (take (chores_of first) owners) ≡ true
  pub first_kept : dominated (as_marked first) (owner_of (take (chores_of first) owners)) ≡ false
  pub second_part : is_allocation (as_marked second) (drop (chores_of first) owners) ≡ true
  pub second_kept : dominated (as_marked second) (owner_of (drop (chores_of first) owners)) ≡ false

-- Waste goes by the costs as marked, of both sheets and of the joined one.
pub record PartsKept (first second : List ℕ) : Type 0 where
  -- "if a list on the joined sheet isn't wasteful, neither strand's part of it is wasteful on its own sheet"
  pub parts :
      (owners : List ℕ) → is_allocation (as_marked (joined_sheet first second)) owners ≡ true
      → dominated (as_marked (joined_sheet first second)) (owner_of owners) ≡ false
      → PartsNotWasteful first second owners
  -- so neither part of the joined sheet's share-out is
  pub shared : (final : State) → Demand3 (joined_sheet first second) final → PartsNotWasteful first second final.owners
