-- What the readers of a sheet ask and answer.
use Rattle.std.specs.Prelude.{ℕ, ◌<◌, List, ◌≡◌, length}
use Rattle.model.specs.Sheet.{agents_of, chores_of, sheet_length}
use Rattle.sheet.specs.Valid.{Valid}

-- a reader's answer: the value asked for, and a bound that it stays below
pub record Read (value bound r : ℕ) : Type 0 where
  pub is : r ≡ value
  pub below : r < bound

-- the sheet s, whose bits are not judged yet, has the length that its n agents and m chores ask for
pub record Whole (s : List ℕ) (n m : ℕ) : Type 0 where
  pub long : length s ≡ sheet_length s
  pub agents : n ≡ agents_of s
  pub chores : m ≡ chores_of s
  pub few : m < 65536

-- the sheet s breaks no rule and has n agents and m chores
pub record SheetRead (s : List ℕ) (n m : ℕ) : Type 0 where
  pub valid : Valid s
  pub agents : n ≡ agents_of s
  pub chores : m ≡ chores_of s

-- the sheet s breaks no rule and has m chores; i is one of its agents
pub record RowInSheet (s : List ℕ) (m i : ℕ) : Type 0 where
  pub valid : Valid s
  pub chores : m ≡ chores_of s
  pub agent : i < agents_of s

-- and c one of its chores
pub record InSheet (s : List ℕ) (m i c : ℕ) : Type 0 where
  pub valid : Valid s
  pub chores : m ≡ chores_of s
  pub agent : i < agents_of s
  pub chore : c < chores_of s
