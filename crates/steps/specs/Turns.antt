-- What a turn of the loop is given, and what it names: one step of Algorithm 1 on a state of lists.
use Rattle.std.specs.Prelude.{ℕ, ◌+◌, ◌*◌, ◌-◌, Bool, true, false, List, ◌≡◌, length}
use Rattle.model.specs.Instance.{owner_of}
use Rattle.model.specs.Sheet.{agents_of, chores_of, easy_weight, difficult_weight, as_read}
use Rattle.model.specs.Algorithm.{State, Action, hand, pass, cut, stop, Outcome, busy, done, action, step}
use Rattle.sheet.specs.Valid.{Valid}
use Rattle.algorithm.specs.Reached.{Reached}
use Rattle.market.specs.Market.{ByGroup}
use Rattle.firsts.specs.Traits.{has_trait}
use Rattle.firsts.specs.Table.{Sized, Listed, Firsts}
use Rattle.seeking.specs.Looks.{Ready}
use Rattle.steps.specs.declared.Turn.{Turn}
use Rattle.steps.specs.declared.Turn.TheVariants.{Moved, Passed, Cut, Ended}

abbrev pub state_of : List ℕ → List ℕ → List ℕ → List ℕ → ℕ → ℕ → ℕ → State
state_of owners prices groups entitled moves cuts stage =
    record { owners = owners; prices = prices; groups = groups; entitled = entitled; moves = moves; cuts = cuts; stage = stage }

-- the outcome of a step, over the lists that it leaves
abbrev pub named : Turn → List ℕ → List ℕ → List ℕ → List ℕ → ℕ → ℕ → ℕ → Outcome
named (Moved chore giver receiver) owners prices groups entitled moves cuts stage = busy (state_of owners prices groups entitled (moves + 1) cuts stage)
named Passed owners prices groups entitled moves cuts stage = busy (state_of owners prices groups entitled moves cuts (stage - 1))
named Cut owners prices groups entitled moves cuts stage = busy (state_of owners prices groups entitled moves (cuts + 1) cuts)
named Ended owners prices groups entitled moves cuts stage = done (state_of owners prices groups entitled moves cuts stage)

-- the action of Algorithm 1 that a turn says it has done
abbrev pub action_of : Turn → Action
action_of (Moved chore giver receiver) = hand chore giver receiver
action_of Passed = pass
action_of Cut = cut
action_of Ended = stop

-- it is the cut
unfoldable pub is_cut : Turn → Bool
is_cut (Moved chore giver receiver) = false
is_cut Passed = false
is_cut Cut = true
is_cut Ended = false

-- what the table is worked out from
pub record Filling (s owners prices groups entitled likes first sets : List ℕ) : Type 0 where
  pub valid : Valid s
  pub owners_sized : length owners ≡ chores_of s
  pub groups_sized : length groups ≡ agents_of s
  pub listed : Listed (agents_of s) owners prices entitled likes
  pub sized : Sized first sets

-- the table of first chores is that of the state, for the agents in no group (free) and in some group (grouped)
pub record Tabled (s owners prices groups entitled likes first sets : List ℕ) : Type 0 where
  pub sized : Sized first sets
  pub rows :
      (free grouped : ℕ) → ByGroup (agents_of s) groups free grouped
      → Firsts (agents_of s) (chores_of s) (owner_of owners) (has_trait prices entitled likes free grouped (easy_weight s * difficult_weight s) (difficult_weight s * difficult_weight s)) first sets

-- a state that Algorithm 1 reaches on the sheet s, with its table
pub record Turning (s owners prices groups entitled likes first sets : List ℕ) (cuts stage : ℕ) : Type 0 where
  pub ready : Ready s owners prices groups entitled likes
  pub moves : ℕ
  pub reached : Reached (as_read s) (state_of owners prices groups entitled moves cuts stage)
  pub tabled : Tabled s owners prices groups entitled likes first sets

-- what a turn leaves: the answer is the action that was due, the lists are those after one step, however many moves came before, and the table is
-- theirs
pub record Turned (s owners prices groups entitled likes : List ℕ) (cuts stage : ℕ) (answer : Turn) (owners' prices' groups' entitled' first' sets' : List ℕ) : Type 0 where
  pub acts : (moves : ℕ) → action (as_read s) (state_of owners prices groups entitled moves cuts stage) ≡ action_of answer
  pub steps : (moves : ℕ) → step (as_read s) (state_of owners prices groups entitled moves cuts stage) ≡ named answer owners' prices' groups' entitled' moves cuts stage
  -- only a cut changes the groups
  pub kept : is_cut answer ≡ false → groups' ≡ groups
  pub tabled : Tabled s owners' prices' groups' entitled' likes first' sets'
