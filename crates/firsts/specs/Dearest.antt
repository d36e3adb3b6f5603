-- The dearest chore of an agent, read off the set of its chores' traits: prices are low, mid or top.
use Rattle.std.specs.Prelude.{ℕ, ◌-◌, ◌≤◌, ◌<◌, cond, List, ◌≡◌, eqb, length, get_or}
use Rattle.finite.specs.Bits.{bit}
use Rattle.model.specs.Limits.{max_agents}
use Rattle.firsts.specs.Traits.{top_trait, mid_trait}

-- of an agent with these traits and this price sum; where the sum is 0 it has no chore
unfoldable pub dearest_in : ℕ → ℕ → ℕ → ℕ → ℕ → ℕ
dearest_in word sum low mid top = cond (bit word top_trait) top (cond (bit word mid_trait) mid (cond (eqb sum 0) 0 low))

-- safety: n agents, and no dearest above the sum
pub record Weighing (n : ℕ) (sums sets ups : List ℕ) (low mid top : ℕ) : Type 0 where
  pub agents : n ≤ max_agents
  pub sums_fit : n ≤ length sums
  pub sets_fit : n ≤ length sets
  pub ups_sized : length ups ≡ max_agents
  pub part : (i : ℕ) → i < n → dearest_in (get_or sets i 0) (get_or sums i 0) low mid top ≤ get_or sums i 0

-- what is left of n sums without the dearest
pub record Weighed (n : ℕ) (sums sets ups : List ℕ) (low mid top : ℕ) : Type 0 where
  pub size : length ups ≡ max_agents
  pub rest : (i : ℕ) → i < n → get_or ups i 0 ≡ get_or sums i 0 - dearest_in (get_or sets i 0) (get_or sums i 0) low mid top
