-- Quotas on a sheet: what the functions are given, and what they leave.
use Rattle.std.specs.Prelude.{ℕ, ◌/◌, ◌≤◌, ◌<◌, List, ◌≡◌, get_or}
use Rattle.std.specs.Int.{◌∣◌}
use Rattle.finite.specs.Sums.{sum_to}
use Rattle.finite.specs.Lists.{Picks}
use Rattle.model.specs.Limits.{max_agents, max_chores}
use Rattle.model.specs.Instance.{Instance, owner_of}
use Rattle.model.specs.Sheet.{agents_of, chores_of, easy_weight, difficult_weight, as_marked}
use Rattle.model.specs.Fairness.{cost_to}
use Rattle.model.specs.MaximinShare.{maximin_share}
use Rattle.placing.specs.Filling.{PartList}

-- a problem with costs in units of the easy weight
abbrev pub in_units : Instance → Instance
in_units I = record { n = I.n; m = I.m; a = 1; b = I.b / I.a; easy = I.easy }

-- a sheet as marked, and its measures, in these units
abbrev pub units_on : List ℕ → Instance
units_on s = in_units (as_marked s)

abbrev pub units_of : ℕ → List ℕ → ℕ → ℕ
units_of a numbers k = get_or numbers k 0 / a

-- agent j takes chores
pub record Taking (s : List ℕ) (j : ℕ) (owners : List ℕ) : Type 0 where
  pub agent : j < agents_of s
  pub slot : j < max_agents
  pub filling : PartList (units_on s) owners

-- a place for chore c is looked for
pub record Seeking (s : List ℕ) (c : ℕ) (places : List ℕ) : Type 0 where
  pub chore : c < chores_of s
  pub few : (i : ℕ) → i < agents_of s → get_or places i 0 ≤ max_chores
  pub some : 0 < sum_to (agents_of s) (λ i. get_or places i 0)

-- what the list is made from: a sheet whose weights divide, and its measures
pub record MeasuredSheet (s numbers : List ℕ) : Type 0 where
  pub divides : easy_weight s ∣ difficult_weight s
  pub each : (i : ℕ) → i < agents_of s → get_or numbers i 0 ≡ maximin_share (as_marked s) i

-- a list of owners in which nobody's chores cost more than its measure
pub record Within (s owners : List ℕ) : Type 0 where
  pub picks : Picks (agents_of s) (chores_of s) owners
  pub each : (i : ℕ) → i < agents_of s → cost_to (as_marked s) (owner_of owners) i i ≤ maximin_share (as_marked s) i
