-- What is given where costs are added up.
use Rattle.std.specs.Prelude.{ℕ, ◌+◌, ◌%◌, ◌≤◌, ◌<◌, List, ◌≡◌}
use Rattle.model.specs.Sheet.{agents_of, chores_of}
use Rattle.given.specs.Given.{Given}

-- agent i's marks for so many chores from first on are in one byte
pub record Adding (s owners : List ℕ) (i first count : ℕ) : Type 0 where
  pub given : Given s owners
  pub agent : i < agents_of s
  pub begins : first % 8 ≡ 0
  pub some : 0 < count
  pub one_byte : count ≤ 8
  pub chores : first + count ≤ chores_of s
