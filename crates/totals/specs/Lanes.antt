-- Price sums in lanes. Document 02, request 6: "take them all in one pass over the reels, adding each price to its owner's sum".
use Rattle.std.specs.Prelude.{ℕ, ◌+◌, ◌*◌, ◌^◌, ◌≤◌, ◌<◌, List, ◌≡◌, length, get_or}
use Rattle.finite.specs.Sums.{sum_to}
use Rattle.model.specs.Limits.{max_agents}
use Rattle.model.specs.Instance.{owner_of, price_of}
use Rattle.model.specs.Prices.{price_sum}
use Rattle.totals.specs.Totals.{Held}

-- so many partial sums for each agent: lane q of agent i is at q times the number of agents and i
abbrev pub lane_count : ℕ
lane_count = 8

abbrev pub lanes_size : ℕ
lanes_size = lane_count * max_agents

-- agent i's lanes added up
unfoldable pub lane_sum : List ℕ → ℕ → ℕ
lane_sum lanes i = sum_to lane_count (λ q. get_or lanes (max_agents * q + i) 0)

-- the first k chores have been added up: in its lanes, each agent's sum
pub record Laned (k : ℕ) (owners prices lanes : List ℕ) : Type 0 where
  pub size : length lanes ≡ lanes_size
  pub sum : (i : ℕ) → i < max_agents → lane_sum lanes i ≡ price_sum k (owner_of owners) (price_of prices) i

-- and there are `count` chores more, a lane for each
pub record Adding (k count : ℕ) (owners prices lanes : List ℕ) : Type 0 where
  pub held : Held owners prices
  pub done : Laned k owners prices lanes
  pub more : k + count ≤ length owners
  pub fit : count ≤ lane_count

-- each agent's lanes have a sum of 32 bits
pub record Narrow (lanes : List ℕ) : Type 0 where
  pub fits : (i : ℕ) → i < max_agents → lane_sum lanes i < 2 ^ 32
