-- The state and the moves that a run comes to.
use Rattle.std.specs.Prelude.{ℕ, suc}
use Rattle.model.specs.Instance.{Instance}
use Rattle.model.specs.Algorithm.{State, Outcome, busy, done, lacking, opening}
use Rattle.algorithm.specs.Reached.{step_number}

-- the state that an outcome is in
unfoldable pub state_in : Outcome → State
state_in (busy s) = s
state_in (done s) = s
state_in (lacking s) = s

-- so many steps are enough for a run to end: each lowers the number of the state
unfoldable pub enough_steps : Instance → ℕ
enough_steps I = suc (step_number I (opening I))
