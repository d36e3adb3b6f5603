-- Document 02, request 8: "up to t of i's reels may be taken off, the costliest for i first". Evenness up to a slack of t chores.
use Rattle.std.specs.Prelude.{ℕ, zero, suc, ◌+◌, Bool, not, ◌&&◌, eqb, leb, ltb}
use Rattle.finite.specs.Sums.{sum_where}
use Rattle.finite.specs.Search.{any_below, all_below, chosen}
use Rattle.model.specs.Instance.{Instance, cost}
use Rattle.model.specs.Fairness.{owns, cost_to}

-- "the costliest for i" of the chores that are left: none of them costs i more. The first of several; m where none is left.
unfoldable pub costliest : Instance → ℕ → (ℕ → Bool) → ℕ
costliest I i left = chosen I.m left (λ d c. ltb (cost I i c) (cost I i d))

-- what is left of them once the costliest is "taken off"
unfoldable pub without_costliest : Instance → ℕ → (ℕ → Bool) → ℕ → Bool
without_costliest I i left c = left c && not (eqb c (costliest I i left))

-- agent i's chores after k were taken off, one after the other. With fewer than k chores none is left.
unfoldable pub left_after : ℕ → Instance → (ℕ → ℕ) → ℕ → ℕ → Bool
left_after zero I x i = owns x i
left_after (suc k) I x i = without_costliest I i (left_after k I x i)

-- what they cost agent i
unfoldable pub rest_cost : ℕ → Instance → (ℕ → ℕ) → ℕ → ℕ
rest_cost k I x i = sum_where I.m (left_after k I x i) (cost I i)

-- "up to t of i's reels": with none of them taken off, or one, .. or t, the rest costs i no more than j's chores would
unfoldable pub fair_up_to : ℕ → Instance → (ℕ → ℕ) → ℕ → ℕ → Bool
fair_up_to t I x i j = any_below (t + 1) (λ k. leb (rest_cost k I x i) (cost_to I x i j))

-- even up to t chores: for each two agents i and j
unfoldable pub even_up_to : ℕ → Instance → (ℕ → ℕ) → Bool
even_up_to t I x = all_below I.n (λ i. all_below I.n (λ j. fair_up_to t I x i j))

-- "plain envy-freeness": nobody's chores would cost i less than its own do
unfoldable pub envy_free : Instance → (ℕ → ℕ) → Bool
envy_free I x = all_below I.n (λ i. all_below I.n (λ j. leb (cost_to I x i i) (cost_to I x i j)))
