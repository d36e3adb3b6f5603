-- Document 02, request 1: "a record of the run: for each move, in the order made, the reel, the giver, the receiver, the round and the step
-- (1 for 2a, 2 for 2b), six bytes each in this order, the reel as two bytes and high byte first". The moves are read off Algorithm 1's own
-- steps.
use Rattle.std.specs.Prelude.{ℕ, zero, suc, ◌+◌, ◌*◌, ◌-◌, ◌/◌, ◌%◌, ◌<◌, cond, List, [], ◌∷◌, ◌++◌, ◌≡◌, eqb, get_or, set}
use Rattle.finite.specs.Lists.{word_at}
use Rattle.model.specs.Instance.{Instance}
use Rattle.model.specs.Algorithm.{State, Action, hand, pass, cut, stop, lack, Outcome, busy, done, lacking, action, after}

-- One chore handed over; chore and agents are counted from 0, rounds and steps from 1.
pub record Move : Type 0 where
  pub chore : ℕ
  pub giver : ℕ
  pub receiver : ℕ
  pub round : ℕ
  pub step : ℕ

-- "Round 1 begins", and with each cut "The next round begins."
unfoldable pub round_of : ℕ → ℕ
round_of cuts = cuts + 1

-- "the step (1 for 2a, 2 for 2b)", by the place in the round
unfoldable pub step_of : ℕ → ℕ
step_of stage = cond (eqb stage 0) 2 1

-- what an action hands over in the state s: one chore, or none
unfoldable pub hands_over : State → Action → List Move
hands_over s (hand c w u) = record { chore = c; giver = w; receiver = u; round = round_of s.cuts; step = step_of s.stage } ∷ []
hands_over s pass = []
hands_over s cut = []
hands_over s stop = []
hands_over s lack = []

module _ (I : Instance) where
  -- and what the step from an outcome does
  unfoldable pub next_moves : Outcome → List Move
  next_moves (busy s) = hands_over s (action I s)
  next_moves (done s) = []
  next_moves (lacking s) = []

  -- "for each move, in the order made": the moves of the first k steps from the opening
  unfoldable pub moves_in : ℕ → List Move
  moves_in zero = []
  moves_in (suc k) = moves_in k ++ next_moves (after I k)

-- "six bytes each"
abbrev pub move_size : ℕ
move_size = 6

-- "in this order, the reel as two bytes and high byte first", all numbered from 1
unfoldable pub move_bytes : Move → List ℕ
move_bytes t = (t.chore + 1) / 256 ∷ (t.chore + 1) % 256 ∷ (t.giver + 1) ∷ (t.receiver + 1) ∷ t.round ∷ t.step ∷ []

unfoldable pub record_of : List Move → List ℕ
record_of [] = []
record_of (t ∷ ts) = move_bytes t ++ record_of ts

-- move k, counted from 0, read back from the bytes of a record
unfoldable pub move_in : List ℕ → ℕ → Move
move_in bytes k =
    record {
      chore = word_at bytes (move_size * k) - 1;
      giver = get_or bytes (move_size * k + 2) 0 - 1;
      receiver = get_or bytes (move_size * k + 3) 0 - 1;
      round = get_or bytes (move_size * k + 4) 0;
      step = get_or bytes (move_size * k + 5) 0;
    }

-- "The record played over the opening list": each chore goes to its receiver, move by move
unfoldable pub played : List Move → List ℕ → List ℕ
played [] owners = owners
played (t ∷ ts) owners = played ts (set owners t.chore (t.receiver + 1))

-- Agent w hands chore c over to another agent u; x gives each chore's owner.
pub record Hands (I : Instance) (x : ℕ → ℕ) (c w u : ℕ) : Type 0 where
  pub chore : c < I.m
  pub giver : w < I.n
  pub receiver : u < I.n
  pub owns : x c ≡ w
  pub apart : w ≡ u → ⊥

-- move k, counted from 0; there is none from the length on
unfoldable pub move_at : List Move → ℕ → Move
move_at moves k = get_or moves k (record { chore = 0; giver = 0; receiver = 0; round = 0; step = 0 })
