-- What makes a list wasteful: a set of agents, found in rounds, and a test on single chores. Costs are as the instance has them.
use Rattle.std.specs.Prelude.{ℕ, Bool, cond, not, ◌&&◌}
use Rattle.finite.specs.Search.{any_below}
use Rattle.finite.specs.Reach.{reach}
use Rattle.model.specs.Instance.{Instance}
use Rattle.model.specs.Fairness.{owns}

-- agent i owns a chore that is difficult for it
unfoldable pub burdened : Instance → (ℕ → ℕ) → ℕ → Bool
burdened I x i = any_below I.m (λ c. owns x i c && not (I.easy i c))

-- agent i owns a chore that is easy for it and easy for agent j
unfoldable pub passes_on : Instance → (ℕ → ℕ) → ℕ → ℕ → Bool
passes_on I x i j = any_below I.m (λ c. owns x i c && (I.easy i c && I.easy j c))

-- agent i is connected to a burdened agent: it can pass an easy chore on, from agent to agent in t steps or fewer, to a burdened one
unfoldable pub connected : Instance → (ℕ → ℕ) → ℕ → ℕ → Bool
connected I x t i = reach I.n (burdened I x) (passes_on I x) t i

-- some chore is difficult for its owner and easy for a connected agent
unfoldable pub waste_test : Instance → (ℕ → ℕ) → Bool
waste_test I x =
    any_below I.m (λ c. not (I.easy (x c) c) && any_below I.n (λ j. connected I x I.n j && I.easy j c))

-- what counts an agent's costs for or against a change of owner: a for a connected agent, b for another
unfoldable pub weight : Instance → (ℕ → ℕ) → ℕ → ℕ
weight I x i = cond (connected I x I.n i) I.a I.b
