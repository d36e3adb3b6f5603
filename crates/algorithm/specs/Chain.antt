-- The moves of step 2b come in chains: what holds between two moves, and how many moves are left. x gives each chore's owner, p its price,
-- `group` each agent's cut group, and `cut` the entitled chores.
use Rattle.std.specs.Prelude.{ℕ, ◌+◌, ◌*◌, ◌-◌, ◌<◌, ◌≤◌, Bool, true, false, not, ◌&&◌, ◌≡◌, eqb}
use Rattle.finite.specs.Sums.{count_to}
use Rattle.finite.specs.Moves.{Moves}
use Rattle.model.specs.Instance.{Instance}
use Rattle.model.specs.Prices.{price_up_to_one}
use Rattle.model.specs.Step2b.{least_sum, above, within}
use Rattle.algorithm.specs.Phases.{Quiet}

-- agent u gets chore k, and then gives away chore e, which is no cheaper
pub record Swaps (m : ℕ) (x y z p : ℕ → ℕ) (k w u e r : ℕ) : Type 0 where
  pub gets : Moves m x y k w u
  pub gives : Moves m y z e u r
  pub no_cheaper : p k ≤ p e

-- the most moves of a chain: its first giver has a distance below n, and each move goes to a smaller one
unfoldable pub chain_top : Instance → ℕ
chain_top I = I.n - 1

-- how many chores are with agents who pass
unfoldable pub held : Instance → (ℕ → ℕ) → (ℕ → Bool) → ℕ
held I x who = count_to I.m (λ c. who (x c))

-- agent i is above the least sum, and is not u
unfoldable pub above_but : Instance → (ℕ → ℕ) → (ℕ → ℕ) → ℕ → ℕ → Bool
above_but I x p u i = above I x p i && not (eqb i u)

module _ (I : Instance) (p group : ℕ → ℕ) (cut : ℕ → Bool) where
  -- In the middle of a chain: agent u, at distance t or less, has come above the least sum, and gives next.
  pub record Carrying (x : ℕ → ℕ) (u t : ℕ) : Type 0 where
    pub distance : t < I.n
    pub carrier : u < I.n
    pub near : within I x p t u ≡ true
    pub carries : least_sum I x p < price_up_to_one I.m x p u
    -- no other member of a group is above it
    pub others : (i : ℕ) → i < I.n → 0 < group i → (i ≡ u → ⊥) → price_up_to_one I.m x p i ≤ least_sum I x p
    -- nobody at a smaller distance is in a group, and u alone is above the least sum at distance t or less
    pub free_nearer : (s i : ℕ) → s < t → i < I.n → within I x p s i ≡ true → group i ≡ 0
    pub alone : (i : ℕ) → i < I.n → within I x p t i ≡ true → least_sum I x p < price_up_to_one I.m x p i → i ≡ u
    -- without any one uncut chore u is not above it
    pub relieved : (y : ℕ → ℕ) (k v : ℕ) → Moves I.m x y k u v → cut k ≡ false → price_up_to_one I.m y p u ≤ least_sum I x p

  -- Between chains, or in one. `room` is enough for the moves left in this round: a chain for each chore of those above the least sum, and
  -- what is left of the present one.
  pub data Chain (x : ℕ → ℕ) (room : ℕ) : Type 0 where
    settled : Quiet I p group cut x → chain_top I * held I x (above I x p) ≤ room → Chain x room
    carrying : (u t : ℕ) → Carrying x u t → chain_top I * held I x (above_but I x p u) + t ≤ room → Chain x room
