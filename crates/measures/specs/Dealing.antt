-- Dealing by what the bundles cost alone: chores of one cost, each to the first of the cheapest bundles.
use Rattle.std.specs.Prelude.{ℕ, zero, suc, ◌+◌, ◌*◌, ◌-◌, ◌^◌, ◌≤◌, ◌<◌, true, List, ◌≡◌, ltb, length, get_or, set}
use Rattle.finite.specs.Search.{chosen}
use Rattle.model.specs.Limits.{max_agents}

-- the first of n costs that is least
unfoldable pub cheapest : ℕ → List ℕ → ℕ
cheapest n costs = chosen n (λ k. true) (λ j k. ltb (get_or costs j 0) (get_or costs k 0))

-- w more for bundle k
unfoldable pub added_to : ℕ → ℕ → List ℕ → List ℕ
added_to k w costs = set costs k (get_or costs k 0 + w)

-- one chore of cost w dealt
unfoldable pub dealt_one : ℕ → ℕ → List ℕ → List ℕ
dealt_one n w costs = added_to (cheapest n costs) w costs

-- so many chores of cost w, one after the other
unfoldable pub dealt_on : ℕ → ℕ → ℕ → List ℕ → List ℕ
dealt_on n w zero costs = costs
dealt_on n w (suc k) costs = dealt_one n w (dealt_on n w k costs)

-- so many chores of cost w are to be dealt to the first n bundles, whose costs then fit 32 bits
pub record Dealing (n w count : ℕ) (costs : List ℕ) : Type 0 where
  pub some : 0 < n
  pub positive : 0 < w
  pub agents : n ≤ max_agents
  pub size : length costs ≡ max_agents
  pub small : (k : ℕ) → k < n → get_or costs k 0 + w * count < 2 ^ 32

-- the first k bundles have been passed: those that cost `least` have one chore more
pub record LevelPassed (n w least count : ℕ) (costs : List ℕ) (k left : ℕ) (costs' : List ℕ) : Type 0 where
  pub within : k ≤ n
  pub remain : left ≤ count
  pub dealt : costs' ≡ dealt_on n w (count - left) costs
  pub above : (j : ℕ) → j < k → least < get_or costs' j 0
  pub under : (j : ℕ) → j < n → least ≤ get_or costs' j 0

-- r of the chores are left, the others have been dealt, and there were some if there were any
pub record LevelDealt (n w count : ℕ) (costs costs' : List ℕ) (r : ℕ) : Type 0 where
  pub remain : r ≤ count
  pub fewer : 0 < count → r < count
  pub dealt : costs' ≡ dealt_on n w (count - r) costs
