-- Step 3: what the cut makes of prices, groups and entitled chores, and what holds when the next round begins.
use Rattle.std.specs.Prelude.{ℕ, ◌+◌, ◌*◌, ◌/◌, ◌<◌, ◌≤◌, Bool, true, cond, ◌||◌, ◌≡◌, ltb}
use Rattle.finite.specs.Sums.{count_to}
use Rattle.model.specs.Instance.{Instance}
use Rattle.model.specs.Step2b.{least_sum, reachable}
use Rattle.algorithm.specs.Core.{Core}
use Rattle.algorithm.specs.Phases.{Entitled, Stage}

module _ (I : Instance) (x p group : ℕ → ℕ) (cut : ℕ → Bool) (count : ℕ) (p' group' : ℕ → ℕ) (cut' : ℕ → Bool) where
  -- whoever is reachable becomes group `count + 1`, and what it owns is cut
  pub record Cuts : Type 0 where
    pub price : (c : ℕ) → c < I.m → p' c ≡ cond (reachable I x p (x c)) (p c * I.a / I.b) (p c)
    pub mark : (c : ℕ) → c < I.m → cut' c ≡ (reachable I x p (x c) || cut c)
    pub member : (i : ℕ) → i < I.n → group' i ≡ cond (reachable I x p i) (count + 1) (group i)

  pub record NextRound : Type 0 where
    pub core : Core I x p' group' cut'
    pub entitled : Entitled I p' group' cut' x (least_sum I x p)
    pub stage : Stage I p' group' cut' x (least_sum I x p) count
    pub bounded : (i : ℕ) → i < I.n → group' i ≤ count + 1
    pub grows : count_to I.n (λ i. ltb 0 (group i)) < count_to I.n (λ i. ltb 0 (group' i))
    -- somebody is in no group still
    pub left : count_to I.n (λ i. ltb 0 (group' i)) < I.n
    -- the division is exact
    pub exact : (c : ℕ) → c < I.m → reachable I x p (x c) ≡ true → p c * I.a ≡ p' c * I.b
