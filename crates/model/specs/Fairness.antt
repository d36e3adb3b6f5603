-- Document 01, "Fair and not wasteful": evenness (EF1) and waste (Pareto domination). An allocation is a function x from chores to agents.
use Rattle.std.specs.Prelude.{ℕ, Bool, not, ◌&&◌, ◌||◌, List, eqb, leb, ltb, length, get_or}
use Rattle.finite.specs.Sums.{sum_to, sum_where, count_to}
use Rattle.finite.specs.Search.{any_below, all_below}
use Rattle.finite.specs.Lists.{some_list}
use Rattle.model.specs.Limits.{out_of_range}
use Rattle.model.specs.Instance.{Instance, cost, owner_of}

-- chore c is agent i's
unfoldable pub owns : (ℕ → ℕ) → ℕ → ℕ → Bool
owns x i c = eqb (x c) i

-- agent i holds a chore
unfoldable pub holds_any : ℕ → (ℕ → ℕ) → ℕ → Bool
holds_any m x i = any_below m (owns x i)

-- how many of the first m chores agent i holds
unfoldable pub bundle_size : ℕ → (ℕ → ℕ) → ℕ → ℕ
bundle_size m x i = count_to m (owns x i)

-- what agent i's chores come to, each counted as f says
unfoldable pub total : ℕ → (ℕ → ℕ) → (ℕ → ℕ) → ℕ → ℕ
total m x f i = sum_where m (owns x i) f

-- what agent j's chores cost, or would cost, agent i
unfoldable pub cost_to : Instance → (ℕ → ℕ) → ℕ → ℕ → ℕ
cost_to I x i j = total I.m x (cost I i) j

-- what all agents' chores cost those who hold them, in total
unfoldable pub total_cost : Instance → (ℕ → ℕ) → ℕ
total_cost I x = sum_to I.n (λ i. cost_to I x i i)

-- what agent i's chores cost agent i, with chore c taken off
unfoldable pub cost_without : Instance → (ℕ → ℕ) → ℕ → ℕ → ℕ
cost_without I x i c = sum_where I.m (λ d. owns x i d && not (eqb d c)) (cost I i)

-- "where i holds a reel, some reel of i can be taken off so that the rest costs i no more than j's reels would cost i. Somebody with no
-- reels envies nobody." An agent is fair to itself, so pairs with i = j change nothing.
unfoldable pub fair : Instance → (ℕ → ℕ) → ℕ → ℕ → Bool
fair I x i j =
    not (holds_any I.m x i)
    || any_below I.m (λ c. owns x i c && leb (cost_without I x i c) (cost_to I x i j))

-- "Even, or envy-free up to one reel: for each two people i and j"
unfoldable pub ef1 : Instance → (ℕ → ℕ) → Bool
ef1 I x = all_below I.n (λ i. all_below I.n (λ j. fair I x i j))

-- "some other list costs nobody more, and somebody less. Such a list dominates.": y dominates x
unfoldable pub dominates : Instance → (ℕ → ℕ) → (ℕ → ℕ) → Bool
dominates I y x =
    all_below I.n (λ i. leb (cost_to I y i i) (cost_to I x i i))
    && any_below I.n (λ i. ltb (cost_to I y i i) (cost_to I x i i))

-- each of the first m entries, owners or prices, is a number from 1 to the limit
unfoldable pub entries_in_range : ℕ → ℕ → List ℕ → Bool
entries_in_range limit m xs = all_below m (λ c. not (out_of_range limit (get_or xs c 0)))

-- "The other lists are all those of m owners from 1 to n."
unfoldable pub is_allocation : Instance → List ℕ → Bool
is_allocation I owners =
    eqb (length owners) I.m && entries_in_range I.n I.m owners

-- "Wasteful": some list of m owners from 1 to n dominates
unfoldable pub dominated : Instance → (ℕ → ℕ) → Bool
dominated I x = some_list I.n I.m (λ y. dominates I (owner_of y) x)
