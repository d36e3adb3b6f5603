-- The state in which the share-out of a sheet ends.
use Rattle.std.specs.Prelude.{ℕ, Bool, List, eqb}
use Rattle.model.specs.Sheet.{as_read}
use Rattle.model.specs.Algorithm.{State, after}
use Rattle.model.specs.Refusals.{sheet_refusal}
use Rattle.algorithm.specs.RunMoves.{state_in, enough_steps}

-- the sheet breaks no rule
unfoldable pub accepts : List ℕ → Bool
accepts s = eqb (sheet_refusal s) 0

-- What as many steps as are enough lead to. A refused sheet has no such state, and what stands here for it is never looked at.
unfoldable pub final_of : List ℕ → State
final_of s = state_in (after (as_read s) (enough_steps (as_read s)))
