-- The most moves that a share-out takes, for demand 1: no "run without end". Agents and chores alone decide it, whatever the weights.
use Rattle.std.specs.Prelude.{ℕ, ◌*◌, ◌-◌}

module _ (agents chores : ℕ) where
  -- for each round
  unfoldable pub round_moves : ℕ
  round_moves = (agents - 1) * chores

  -- in all: there are no more rounds than agents
  unfoldable pub most_moves : ℕ
  most_moves = agents * round_moves

-- With 32 agents and 4,000 chores. Counters hold it.
abbrev pub most_ever : ℕ
most_ever = 3968000
