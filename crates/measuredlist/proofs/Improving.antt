-- Improvements: what was found takes the place of the list at hand, costs nobody more, and costs less in total.
-- Assumes nothing.
use Prim.Native.Nat.{ℕ, ◌≤◌, ◌<◌}
use mathlib.Core.Bool.{false}
use mathlib.Core.List.{List}
use mathlib.Core.Path.{◌≡◌, sym}
use native.Mathlib.Nat.{le_trans}
use lib.ListN.{take}
use Rattle.model.specs.Instance.{owner_of}
use Rattle.model.specs.Sheet.{agents_of, chores_of, as_marked}
use Rattle.model.specs.Fairness.{cost_to, total_cost, dominated}
use Rattle.model.specs.Promises.{Dominating}
use Rattle.model.proofs.Allocations.{allocation_picks}
use Rattle.welfare.proofs.Domination.{Better, dominates_elim, better_cheaper}
use Rattle.given.specs.Given.{Given}
use Rattle.given.proofs.Given.{picks_given, given_picks}
use Rattle.measuredlist.specs.Improving.{Improved}

-- the list at hand is whole, and costs nobody more than the first one did
pub record Improving (s owners owners' : List ℕ) : Type 0 where
  pub given : Given s owners'
  pub none_more : (i : ℕ) → i < agents_of s → cost_to (as_marked s) (owner_of owners') i i ≤ cost_to (as_marked s) (owner_of owners) i i

module _ {s owners owners' : List ℕ} (I : Improving s owners owners') where
  -- a list that dominates takes its place
  module _ {lent spare : List ℕ} (d : Dominating s owners' lent spare) where
    better : Better (as_marked s) (owner_of (take (chores_of s) spare)) (owner_of owners')
    better = dominates_elim (as_marked s) _ _ d.dominating

    replaced_given : Given s (take (chores_of s) spare)
    unfolding as_marked
    replaced_given = picks_given I.given.valid (allocation_picks (as_marked s) _ d.allocation)

    pub replaced_none_more : (i : ℕ) → i < agents_of s → cost_to (as_marked s) (owner_of (take (chores_of s) spare)) i i ≤ cost_to (as_marked s) (owner_of owners) i i
    unfolding as_marked
    replaced_none_more i l = le_trans (better.none_more i l) (I.none_more i l)

    pub replaced : Improving s owners (take (chores_of s) spare)
    replaced = record { given = replaced_given; none_more = replaced_none_more }

    pub replaced_cheaper : total_cost (as_marked s) (owner_of (take (chores_of s) spare)) < total_cost (as_marked s) (owner_of owners')
    replaced_cheaper = better_cheaper better

  -- no list dominates
  pub last : false ≡ dominated (as_marked s) (owner_of owners') → Improved s owners owners'
  last none = record { picks = given_picks I.given; none_more = I.none_more; undominated = sym none }
