-- Price sums "all in one pass over the reels": what the pass is given, and what it leaves.
use Rattle.std.specs.Prelude.{ℕ, ◌-◌, ◌≤◌, ◌<◌, List, ◌≡◌, length, get_or, replicate}
use Rattle.finite.specs.Lists.{Table}
use Rattle.model.specs.Limits.{max_agents, max_chores, max_price}
use Rattle.model.specs.Instance.{owner_of, price_of}
use Rattle.model.specs.Prices.{price_sum, dearest, price_up_to_one}

-- as many chores as there may be, each with an owner from 1 to 32 and a price up to 1,000,000: so many prices have a sum of 32 bits
pub record Held (owners prices : List ℕ) : Type 0 where
  pub chores : length owners ≤ max_chores
  pub prices_sized : length prices ≡ length owners
  pub numbered : (c : ℕ) → c < length owners → 0 < get_or owners c 0
  pub known : (c : ℕ) → c < length owners → get_or owners c 0 ≤ max_agents
  pub bounded : (c : ℕ) → c < length owners → get_or prices c 0 ≤ max_price

-- n agents, and lists of zeros to be filled
pub record Summing (n : ℕ) (owners prices sums ups : List ℕ) : Type 0 where
  pub agents : n ≤ max_agents
  pub held : Held owners prices
  pub no_sums : sums ≡ replicate max_agents 0
  pub no_ups : ups ≡ replicate max_agents 0

-- the first k chores have been added up: each agent's sum, and the dearest chore held
pub record Added (k : ℕ) (owners prices sums tops : List ℕ) : Type 0 where
  pub sum : Table max_agents (price_sum k (owner_of owners) (price_of prices)) sums
  pub top : Table max_agents (dearest k (owner_of owners) (price_of prices)) tops

-- parts of the sums of n agents
pub record Parts (n : ℕ) (sums tops : List ℕ) : Type 0 where
  pub agents : n ≤ max_agents
  pub size : length tops ≡ max_agents
  pub part : (i : ℕ) → i < n → get_or tops i 0 ≤ get_or sums i 0

-- what is left of the sums of n agents, in the place of the parts
pub record TakenOff (n : ℕ) (sums tops rests : List ℕ) : Type 0 where
  pub size : length rests ≡ length tops
  pub rest : (i : ℕ) → i < n → get_or rests i 0 ≡ get_or sums i 0 - get_or tops i 0

-- Document 02, request 6: "adding each price to its owner's sum. Each must be shown equal to the sum of the prices that person holds": each
-- agent's sum, and the price up to one of n agents.
pub record Summed (n : ℕ) (owners prices sums ups : List ℕ) : Type 0 where
  pub sum : Table max_agents (price_sum (length owners) (owner_of owners) (price_of prices)) sums
  pub size : length ups ≡ max_agents
  pub up : (i : ℕ) → i < n → get_or ups i 0 ≡ price_up_to_one (length owners) (owner_of owners) (price_of prices) i
