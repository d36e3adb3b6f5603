-- Improvements: while another list dominates, that list takes the place of the one at hand.
use Rattle.std.specs.Prelude.{ℕ, ◌≤◌, ◌<◌, false, List, ◌≡◌}
use Rattle.finite.specs.Lists.{Picks}
use Rattle.model.specs.Instance.{owner_of}
use Rattle.model.specs.Sheet.{agents_of, chores_of, as_marked}
use Rattle.model.specs.Fairness.{cost_to, dominated}
use Rattle.model.specs.MaximinShare.{maximin_share}

-- the last one costs nobody more than the first one did, and no list dominates it
pub record Improved (s owners owners' : List ℕ) : Type 0 where
  pub picks : Picks (agents_of s) (chores_of s) owners'
  pub none_more : (i : ℕ) → i < agents_of s → cost_to (as_marked s) (owner_of owners') i i ≤ cost_to (as_marked s) (owner_of owners) i i
  pub undominated : dominated (as_marked s) (owner_of owners') ≡ false

-- and it is within the measures
pub record Respected (s owners : List ℕ) : Type 0 where
  pub picks : Picks (agents_of s) (chores_of s) owners
  pub within : (i : ℕ) → i < agents_of s → cost_to (as_marked s) (owner_of owners) i i ≤ maximin_share (as_marked s) i
  pub undominated : dominated (as_marked s) (owner_of owners) ≡ false
