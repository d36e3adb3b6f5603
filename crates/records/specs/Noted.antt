-- A move in the record, and a record of the moves so far.
use Rattle.std.specs.Prelude.{ℕ, ◌+◌, ◌*◌, ◌≤◌, ◌<◌, List, ◌++◌, ◌≡◌, length, drop}
use Rattle.std.proofs.lemmas.List.Edits.{sets}
use Rattle.model.specs.Limits.{max_agents}
use Rattle.model.specs.Record.{Move, round_of, step_of, move_size, move_bytes, record_of}

-- a move as the code tells it
abbrev pub move_of : ℕ → ℕ → ℕ → ℕ → ℕ → Move
move_of chore giver receiver cuts stage =
    record { chore = chore; giver = giver; receiver = receiver; round = round_of cuts; step = step_of stage }

-- its numbers have their bytes
pub record Numbers (chore giver receiver cuts : ℕ) : Type 0 where
  pub of_chore : chore < 65535
  pub of_giver : giver < max_agents
  pub of_receiver : receiver < max_agents
  pub of_round : cuts < max_agents

-- the move t after `made` others, where there is room for so many
pub record Noted (made : ℕ) (t : Move) (bytes bytes' : List ℕ) : Type 0 where
  pub fits : move_size * (made + 1) ≤ length bytes → bytes' ≡ sets bytes (move_size * made) (move_bytes t)
  pub full : length bytes < move_size * (made + 1) → bytes' ≡ bytes

-- the moves so far stand first, if there is room for them, and the rest is as lent
pub record Holding (moves : List Move) (bytes bytes' : List ℕ) : Type 0 where
  pub sized : length bytes' ≡ length bytes
  pub first : move_size * length moves ≤ length bytes → bytes' ≡ record_of moves ++ drop (move_size * length moves) bytes
