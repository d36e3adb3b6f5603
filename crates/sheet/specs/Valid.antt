-- What "refusal 0" of a sheet means, fact by fact. The laws `valid` and `accepted` say that it means just this.
use Rattle.std.specs.Prelude.{ℕ, ◌+◌, ◌*◌, ◌-◌, ◌≤◌, ◌<◌, false, List, ◌≡◌, length}
use Rattle.finite.specs.Packed.{bit_at}
use Rattle.model.specs.Limits.{max_agents, max_chores, max_weight}
use Rattle.model.specs.Sheet.{header_size, agents_of, chores_of, easy_weight, difficult_weight, row_size, row_of, sheet_length}
use Rattle.model.specs.Strands.{joined_chores}

pub record Valid (s : List ℕ) : Type 0 where
  -- the header is there
  pub header : header_size ≤ length s
  pub some_agent : 0 < agents_of s
  pub agents_fit : agents_of s ≤ max_agents
  pub chores_fit : chores_of s ≤ max_chores
  pub easy_positive : 0 < easy_weight s
  pub easier : easy_weight s < difficult_weight s
  pub weight_fits : difficult_weight s ≤ max_weight
  pub long : length s ≡ sheet_length s
  -- "bits after the last reel are 0"
  pub padding : (i k : ℕ) → i < agents_of s → k < 8 * row_size s - chores_of s → bit_at (row_of s i) (chores_of s + k) ≡ false

-- What "refusal 0" of two strands means: the law `joinable` says so.
pub record Joinable (first second : List ℕ) : Type 0 where
  pub valid_first : Valid first
  pub valid_second : Valid second
  pub agents : agents_of first ≡ agents_of second
  pub easy : easy_weight first ≡ easy_weight second
  pub difficult : difficult_weight first ≡ difficult_weight second
  pub fits : joined_chores first second ≤ max_chores
