-- Lists of owners while they are filled, with 0 for a chore that has no owner: by agents that take easy chores, then by places.
use Rattle.std.specs.Prelude.{ℕ, ◌+◌, ◌*◌, ◌≤◌, ◌<◌, Bool, true, false, ◌⊎◌, List, ◌≡◌, eqb, length, get_or}
use Rattle.finite.specs.Sums.{sum_to, count_to}
use Rattle.finite.specs.Lists.{Picks}
use Rattle.model.specs.Limits.{max_agents, max_chores}
use Rattle.model.specs.Instance.{Instance}
use Rattle.model.specs.MaximinShare.{bundle_cost}
use Rattle.measures.proofs.Bearable.{difficult_count}

-- chore c has no owner
unfoldable pub free : List ℕ → ℕ → Bool
free owners c = eqb (get_or owners c 0) 0

unfoldable pub free_count : ℕ → List ℕ → ℕ
free_count m owners = count_to m (free owners)

-- what agent k's chores cost it
unfoldable pub load : Instance → List ℕ → ℕ → ℕ
load U owners k = bundle_cost U k owners k

-- a list for the chores, with agents' numbers or 0
pub record PartList (U : Instance) (owners : List ℕ) : Type 0 where
  pub size : length owners ≡ U.m
  pub bounded : (c : ℕ) → c < U.m → get_or owners c 0 ≤ U.n

-- Agent j has taken chores that had no owner and are easy for it: its quota of them, but for those that are left.
pub record EasyTaken (U : Instance) (j quota left : ℕ) (owners owners' : List ℕ) : Type 0 where
  pub remain : left ≤ quota
  pub filling : PartList U owners'
  pub fewer : free_count U.m owners + left ≡ free_count U.m owners' + quota
  pub loaded : load U owners' j + left ≡ load U owners j + quota
  pub others : (i : ℕ) → (i ≡ j → ⊥) → load U owners' i ≡ load U owners i

-- It has passed the first k chores: none of these is easy for it and still has no owner.
pub record QuotaTakenTo (U : Instance) (j quota k left : ℕ) (owners owners' : List ℕ) : Type 0 where
  pub took : EasyTaken U j quota left owners owners'
  pub passed : (c : ℕ) → c < k → free owners' c ≡ true → U.easy j c ≡ false

-- It has taken its quota, or what is left without an owner is difficult for it.
pub record QuotaTaken (U : Instance) (j quota : ℕ) (owners owners' : List ℕ) : Type 0 where
  pub left : ℕ
  pub took : EasyTaken U j quota left owners owners'
  pub full : (left ≡ 0) ⊎ (free_count U.m owners' ≤ difficult_count U j)

-- for each chore without an owner there is a place
pub record Roomy (U : Instance) (places owners : List ℕ) : Type 0 where
  pub slots : length places ≡ max_agents
  pub filling : PartList U owners
  pub room : free_count U.m owners ≤ sum_to U.n (λ i. get_or places i 0)
  pub few : (i : ℕ) → i < U.n → get_or places i 0 ≤ max_chores

-- The first k chores have owners: those that had none went to agents with places.
pub record PlacedTo (U : Instance) (k : ℕ) (places owners places' owners' : List ℕ) : Type 0 where
  pub within : k ≤ U.m
  pub roomy : Roomy U places' owners'
  pub owned : (c : ℕ) → c < k → 0 < get_or owners' c 0
  pub each : (i : ℕ) → i < U.n → load U owners' i + U.b * get_or places' i 0 ≤ load U owners i + U.b * get_or places i 0

-- All chores have owners.
pub record AllPlaced (U : Instance) (places owners owners' : List ℕ) : Type 0 where
  pub picks : Picks U.n U.m owners'
  pub each : (i : ℕ) → i < U.n → load U owners' i ≤ load U owners i + U.b * get_or places i 0

-- agent k has a place
pub record HasPlace (n k : ℕ) (places : List ℕ) : Type 0 where
  pub agent : k < n
  pub place : 0 < get_or places k 0
