-- The further invariants of a round: of the cut chores, of step 2a at a stage, and of step 2b between its chains of moves.
use Rattle.std.specs.Prelude.{ℕ, ◌*◌, ◌<◌, ◌≤◌, Bool, cond, ◌⊎◌, ◌≡◌, ltb}
use Rattle.finite.specs.Search.{Hit}
use Rattle.model.specs.Instance.{Instance}
use Rattle.model.specs.Prices.{price_sum, price_up_to_one}
use Rattle.model.specs.Step2b.{least_sum}
use Rattle.algorithm.specs.Core.{Core}

-- the price of a chore that is cut, and 0 for any other: with it, sums are over the entitled chores alone
unfoldable pub cut_price : (ℕ → ℕ) → (ℕ → Bool) → ℕ → ℕ
cut_price p cut c = cond (cut c) (p c) 0

module _ (I : Instance) (p group : ℕ → ℕ) (cut : ℕ → Bool) where
  -- Entitled chores alone. `top` is the least sum at the latest cut, before its prices fell; 0 before the first cut.
  pub record Entitled (x : ℕ → ℕ) (top : ℕ) : Type 0 where
    pub order :
        (i j : ℕ) → i < I.n → j < I.n → 0 < group i → group i < group j
        → price_up_to_one I.m x (cut_price p cut) i ≤ price_sum I.m x (cut_price p cut) j
    pub under : (i : ℕ) → i < I.n → 0 < group i → I.b * price_up_to_one I.m x (cut_price p cut) i ≤ I.a * top

  -- 2a with the groups above `stage` done, from the first cut on
  pub record Stage (x : ℕ → ℕ) (top stage : ℕ) : Type 0 where
    pub some_group : Hit I.n (λ i. ltb 0 (group i))
    pub fair :
        (i j : ℕ) → i < I.n → j < I.n → 0 < group i → 0 < group j → (stage < group i) ⊎ (group j ≤ group i)
        → price_up_to_one I.m x p i ≤ price_sum I.m x p j
    pub low : (i : ℕ) → i < I.n → 0 < group i → price_up_to_one I.m x p i ≤ top
    pub rest : (i : ℕ) → i < I.n → group i ≡ 0 → top < price_sum I.m x p i

  -- The owners x₀ with which 2b began, from the first cut on.
  pub record Began (x₀ : ℕ → ℕ) (top : ℕ) : Type 0 where
    pub some_group : Hit I.n (λ i. ltb 0 (group i))
    pub core : Core I x₀ p group cut
    pub rest : (i : ℕ) → i < I.n → group i ≡ 0 → top < price_sum I.m x₀ p i

  -- no member of a group is above the least sum
  pub record Quiet (x : ℕ → ℕ) : Type 0 where
    pub quiet : (i : ℕ) → i < I.n → 0 < group i → price_up_to_one I.m x p i ≤ least_sum I x p
