-- Agents that wait and agents that have been served, as lists have it.
use Rattle.std.specs.Prelude.{ℕ, ◌+◌, ◌*◌, ◌-◌, ◌/◌, ◌≤◌, ◌<◌, Bool, true, false, ◌⊎◌, List, ◌≡◌, length, get_or, set}
use Rattle.model.specs.Limits.{max_agents}
use Rattle.model.specs.Instance.{Instance}
use Rattle.measures.proofs.Bearable.{easy_count}
use Rattle.quotas.specs.Quotas.{Serving}
use Rattle.placing.specs.Filling.{free_count, load, PartList, QuotaTaken, Roomy}

-- agent k waits, where a list has who does
unfoldable pub waits : List Bool → ℕ → Bool
waits waiting k = get_or waiting k false

-- the first k agents have their numbers of easy chores
pub record EasyCounted (U : Instance) (k : ℕ) (counts : List ℕ) : Type 0 where
  pub size : length counts ≡ max_agents
  pub each : (i : ℕ) → i < k → get_or counts i 0 ≡ easy_count U i

-- Agent j has been served, and r places are left to give.
pub record Served (U : Instance) (j measure left : ℕ) (places owners places' owners' : List ℕ) (r : ℕ) : Type 0 where
  pub mine : ℕ
  pub most : mine ≤ left
  pub fits : U.b * mine ≤ measure
  pub either : (mine ≡ measure / U.b) ⊎ (mine ≡ left)
  pub rest : r ≡ left - mine
  pub placed : places' ≡ set places j mine
  pub taken : QuotaTaken U j (measure - U.b * mine) owners owners'

-- of the agents who wait none finds fewer chores easy than agent j
pub record NextAgent (n : ℕ) (counts : List ℕ) (waiting' : List Bool) (j : ℕ) : Type 0 where
  pub agent : j < n
  pub waiting : waits waiting' j ≡ true
  pub fewest : (k : ℕ) → k < n → waits waiting' k ≡ true → get_or counts j 0 ≤ get_or counts k 0

-- the agents who do not wait have been served
pub record Queue (U : Instance) (mu : ℕ → ℕ) (left : ℕ) (waiting : List Bool) (places owners : List ℕ) : Type 0 where
  pub sized : length waiting ≡ max_agents
  pub slots : length places ≡ max_agents
  pub filling : PartList U owners
  pub serving : Serving U mu (waits waiting) left (free_count U.m owners) (λ k. get_or places k 0) (load U owners)

-- Everybody has been served: what agent i has, and difficult chores in its places, fit what it can bear.
pub record AllServed (U : Instance) (mu : ℕ → ℕ) (places owners : List ℕ) : Type 0 where
  pub roomy : Roomy U places owners
  pub each : (i : ℕ) → i < U.n → load U owners i + U.b * get_or places i 0 ≤ mu i
