-- What is taken off an agent's chores.
use Rattle.std.specs.Prelude.{ℕ, ◌+◌, List, ◌≡◌}
use Rattle.model.specs.Instance.{owner_of}
use Rattle.model.specs.Sheet.{as_marked}
use Rattle.model.specs.Fairness.{cost_to}
use Rattle.model.specs.Slack.{rest_cost}

-- r is what the chores cost agent i that are taken off with this slack: with the rest it makes what all of its chores cost
pub record Off (s owners : List ℕ) (slack i r : ℕ) : Type 0 where
  pub whole : r + rest_cost slack (as_marked s) (owner_of owners) i ≡ cost_to (as_marked s) (owner_of owners) i i
