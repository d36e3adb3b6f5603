-- What a chore is worth to an agent at its price: the worths decide which chores are best.
use Rattle.std.specs.Prelude.{ℕ, ◌+◌, ◌*◌, ◌-◌, ◌≤◌, ◌<◌, cond, List, ◌≡◌, length, get_or}
use Rattle.finite.specs.Sums.{max_to}
use Rattle.finite.specs.Bits.{bit}
use Rattle.finite.specs.Lists.{Picks}
use Rattle.model.specs.Limits.{max_agents, max_weight, max_price}
use Rattle.model.specs.Instance.{Instance, price_of}
use Rattle.model.specs.Sheet.{agents_of, chores_of, as_marked}
use Rattle.given.specs.Given.{Marked}

-- the price of chore c times the weight that it does not cost agent i
unfoldable pub worth : Instance → (ℕ → ℕ) → ℕ → ℕ → ℕ
worth I p i c = p c * cond (I.easy i c) I.b I.a

-- what is asked for one: a price, the weights, and a mark
pub record Weighable (price a b mark : ℕ) : Type 0 where
  pub priced : price ≤ max_price
  pub marked : Marked a b mark
  pub fits : b ≤ max_weight

-- what chore first + j is worth to an agent whose mark for it is at place j of a byte
unfoldable pub worth_in : ℕ → ℕ → List ℕ → ℕ → ℕ → ℕ → ℕ
worth_in a b prices first byte j = price_of prices (first + j) * cond (bit byte (7 - j)) a b

-- the weights, and at most eight chores, from `first` on, that have a price
pub record UpToEight (prices : List ℕ) (a b first count : ℕ) : Type 0 where
  pub easier : a ≤ b
  pub fits : b ≤ max_weight
  pub few : count ≤ 8
  pub inside : first + count ≤ length prices
  pub bounded : (c : ℕ) → c < length prices → get_or prices c 0 ≤ max_price

-- each chore has a price, from 1 to 1,000,000; of some, 8 k .. 8 k + count - 1, the marks are in byte k of each row
pub record Column (s prices : List ℕ) (k count : ℕ) : Type 0 where
  pub priced : Picks max_price (chores_of s) prices
  pub few : count ≤ 8
  pub inside : 8 * k + count ≤ chores_of s

-- the greatest worth of the first c chores to agent i
abbrev pub greatest_to : List ℕ → List ℕ → ℕ → ℕ → ℕ
greatest_to s prices c i = max_to c (worth (as_marked s) (price_of prices) i)

-- it is there for each agent
pub record Greatest (s prices : List ℕ) (c : ℕ) (greatest : List ℕ) : Type 0 where
  pub size : length greatest ≡ max_agents
  pub each : (i : ℕ) → i < agents_of s → get_or greatest i 0 ≡ greatest_to s prices c i
