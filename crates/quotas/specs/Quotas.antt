-- Quotas: each agent gets places, which may go to any chore, and for the rest of its measure chores that are easy for it. What holds while agents
-- are served, in numbers alone; costs are in units of the easy weight.
use Rattle.std.specs.Prelude.{ℕ, ◌+◌, ◌*◌, ◌/◌, ◌≤◌, ◌<◌, Bool, true, false, ◌⊎◌, ◌≡◌}
use Rattle.finite.specs.Sums.{sum_to, sum_where}
use Rattle.model.specs.Instance.{Instance}
use Rattle.measures.proofs.Bearable.{difficult_count, Bearable}

-- in units, each agent k can bear mu k
pub record Bears (U : Instance) (mu : ℕ → ℕ) : Type 0 where
  pub some : 0 < U.n
  pub unit : U.a ≡ 1
  pub heavy : 0 < U.b
  pub each : (k : ℕ) → k < U.n → Bearable U k (mu k)

-- how many marks are difficult, of all agents
abbrev pub difficult_in_all : Instance → ℕ
difficult_in_all U = sum_to U.n (difficult_count U)

-- so many places are given out: the difficult marks of an agent, on the average
abbrev pub places_in_all : Instance → ℕ
places_in_all U = difficult_in_all U / U.n

-- Some agents wait, the others have their places and their load of easy chores; so many places are left to give, and so many chores have no
-- owner.
pub record Serving (U : Instance) (mu : ℕ → ℕ) (waits : ℕ → Bool) (left free : ℕ) (places loads : ℕ → ℕ) : Type 0 where
  -- who waits has no more difficult marks than who was served
  pub ordered : (k l : ℕ) → k < U.n → l < U.n → waits k ≡ true → waits l ≡ false → difficult_count U k ≤ difficult_count U l
  -- the chores without an owner find room: in places that are given, and in the measures of those who wait
  pub room : free + U.b * left ≤ places_in_all U + sum_where U.n waits mu
  -- the places left are no more than those who wait need, and no fewer
  pub few : U.n * left ≤ sum_where U.n waits (difficult_count U)
  pub enough : difficult_in_all U + U.n * left < sum_where U.n waits (difficult_count U) + U.n * places_in_all U + U.n
  pub given : left + sum_to U.n places ≡ places_in_all U
  pub within : (k : ℕ) → k < U.n → loads k + U.b * places k ≤ mu k
  pub no_places : (k : ℕ) → k < U.n → waits k ≡ true → places k ≡ 0
  pub no_load : (k : ℕ) → k < U.n → waits k ≡ true → loads k ≡ 0

-- Agent j's turn: it gets `mine` places, and of the chores without an owner `taken`, all easy for it.
pub record AgentServed (U : Instance) (mu : ℕ → ℕ) (j mine taken left free free' : ℕ) (waits waits' : ℕ → Bool) (places places' loads loads' : ℕ → ℕ) : Type 0 where
  pub agent : j < U.n
  pub waiting : waits j ≡ true
  -- of those who wait it has most difficult marks
  pub greatest : (k : ℕ) → k < U.n → waits k ≡ true → difficult_count U k ≤ difficult_count U j
  pub served : waits' j ≡ false
  pub others_wait : (k : ℕ) → k < U.n → (k ≡ j → ⊥) → waits' k ≡ waits k
  -- its places: as many difficult chores as fit its measure, or all places that are left
  pub most : mine ≤ left
  pub either : (mine ≡ mu j / U.b) ⊎ (mine ≡ left)
  pub placed : places' j ≡ mine
  pub others_placed : (k : ℕ) → k < U.n → (k ≡ j → ⊥) → places' k ≡ places k
  -- its chores
  pub fewer : free ≡ free' + taken
  pub loaded : loads' j ≡ loads j + taken
  pub others_loaded : (k : ℕ) → k < U.n → (k ≡ j → ⊥) → loads' k ≡ loads k
  -- they fill its measure, or only chores difficult for it are left
  pub quota : taken + U.b * mine ≤ mu j
  pub full : (taken + U.b * mine ≡ mu j) ⊎ (free' ≤ difficult_count U j)
