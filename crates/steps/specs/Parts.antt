-- The parts of a step: what handing a chore over asks, and what the cut leaves.
use Rattle.std.specs.Prelude.{ℕ, ◌+◌, ◌*◌, ◌<◌, Bool, cond, List, ◌≡◌, length, get_or}
use Rattle.finite.specs.Bits.{bit, SetOf}
use Rattle.finite.specs.Lists.{tabulate}
use Rattle.model.specs.Limits.{max_agents, scratch_size}
use Rattle.model.specs.Sheet.{agents_of, easy_weight, difficult_weight}
use Rattle.sheet.specs.Valid.{Valid}
use Rattle.totals.specs.Totals.{Held}
use Rattle.market.specs.Cutting.{CutPrices}
use Rattle.firsts.specs.Traits.{trait_count}
use Rattle.firsts.specs.Table.{Sized, Listed, HandedOn}
use Rattle.rings.specs.Line.{is_reached}
use Rattle.steps.specs.declared.Turn.{Turn}
use Rattle.steps.specs.declared.Turn.TheVariants.{Moved}

-- the move is there: agent w's first chore with trait t, for agent u
pub record Handing (owners prices entitled likes first sets : List ℕ) (w u t : ℕ) : Type 0 where
  pub listed : Listed max_agents owners prices entitled likes
  pub sized : Sized first sets
  pub giver : w < max_agents
  pub receiver : u < max_agents
  pub trait : t < trait_count
  pub chore : get_or first (w * trait_count + t) 0 < length owners

-- and has been made
pub record HandedOver (trait : ℕ → ℕ → Bool) (w u t : ℕ) (owners first sets : List ℕ) (answer : Turn) (owners' first' sets' : List ℕ) : Type 0 where
  pub told : answer ≡ Moved (get_or first (w * trait_count + t) 0) w u
  pub handed : HandedOn trait (get_or first (w * trait_count + t) 0) u owners first sets owners' first' sets'

-- what the cut is given: a state, and the scratch
pub record Cutting (s owners prices groups entitled scratch : List ℕ) (cuts : ℕ) : Type 0 where
  pub valid : Valid s
  pub held : Held owners prices
  pub entitled_sized : length entitled ≡ length owners
  pub groups_sized : length groups ≡ agents_of s
  pub scratch_sized : length scratch ≡ scratch_size
  pub few : cuts < max_agents

-- the agents in line, as a set, have become a group, and what they hold is entitled and cheaper
pub record CutOff (s owners prices groups entitled scratch : List ℕ) (cuts : ℕ) (prices' groups' entitled' : List ℕ) : Type 0 where
  pub group : ℕ
  pub in_line : SetOf (agents_of s) group (is_reached scratch)
  pub cut : CutPrices owners prices entitled prices' entitled' group (easy_weight s) (difficult_weight s)
  pub grouped : groups' ≡ tabulate (length groups) (λ i. cond (bit group i) (cuts + 1) (get_or groups i 0))
