-- `given::mark_cost` meets its contract, mark by mark.
use native.Mathlib.Omega.{arith}
use Rattle.given.proofs.Costs.{either_cost}
use Rattle.given.proofs.mark_cost.Goals as goal

pub returns : goal.returns
returns c = either_cost c.requires.either (λ e. rw e (omega arith)) (λ e. rw e (omega arith))
