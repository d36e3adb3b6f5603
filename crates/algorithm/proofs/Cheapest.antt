-- No list costs less in total than an opening. Of the opening no more is used than `Opened` says.
-- Assumes nothing.
use Prim.Native.Nat.{ℕ, ◌≤◌, ◌<◌}
use mathlib.Core.Path.{◌≡◌}
use native.Mathlib.Nat.{le_refl, le_of_lt}
use Rattle.finite.specs.Sums.{sum_to}
use Rattle.finite.proofs.Tests.{by_test, cond-le}
use Rattle.finite.proofs.Search.{any_intro}
use Rattle.finite.proofs.Sums.{sum_mono}
use Rattle.finite.proofs.Fibres.{fibres_of}
use Rattle.model.specs.Instance.{Instance, cost, owner_of}
use Rattle.model.specs.Fairness.{owns, total, cost_to, total_cost}
use Rattle.model.specs.Algorithm.{opening}
use Rattle.model.proofs.Allocations.{picks_allocation}
use Rattle.welfare.proofs.Allocations.{allocation_below}
use Rattle.algorithm.specs.Kinds.{Sound}
use Rattle.algorithm.specs.Opened.{Opened}
use Rattle.algorithm.specs.Theorem.{CostsLeast}
use Rattle.algorithm.proofs.Opening.{opening_picks, opening_opened}

-- the total cost, chore by chore
by_chore : (I : Instance) (x : ℕ → ℕ) → ((c : ℕ) → c < I.m → x c < I.n) → total_cost I x ≡ sum_to I.m (λ c. cost I (x c) c)
unfolding total_cost cost_to total owns
by_chore I x owned = fibres_of I.n I.m x (cost I) owned

module _ {I : Instance} (S : Sound I) {x p : ℕ → ℕ} (o : Opened I x p) where
  -- nobody finds a chore easier than the agent whom it opens with
  least_at : (c : ℕ) → c < I.m → (j : ℕ) → j < I.n → cost I (x c) c ≤ cost I j c
  unfolding cost
  least_at c h j l =
      by_test (I.easy j c)
      (λ e. rw (e, o.easy_where_can c h (any_intro (λ i. I.easy i c) j l e)) (le_refl _))
      (λ e. rw e (cond-le (I.easy (x c) c) (λ _. le_of_lt S.easier) (λ _. le_refl _)))

  least_cost : (y : ℕ → ℕ) → ((c : ℕ) → c < I.m → y c < I.n) → total_cost I x ≤ total_cost I y
  least_cost y owned = rw (by_chore I x o.owned, by_chore I y owned) (sum_mono I.m (λ c h. least_at c h (y c) (owned c h)))

pub opening_costs_least : {I : Instance} → Sound I → CostsLeast I (opening I).owners
opening_costs_least {I} S =
    record {
      allocation = picks_allocation I (opening I).owners (opening_picks I S.some);
      least = λ y a. least_cost S (opening_opened I S.some) (owner_of y) (allocation_below I y a);
    }
