-- Lists of owners' numbers, and the functions from chores to agents that they stand for.
-- Assumes nothing.
use Prim.Native.Nat.{ℕ, ◌+◌, ◌<◌}
use mathlib.Core.Bool.{true, false}
use mathlib.Core.List.{List}
use mathlib.Core.Path.{◌≡◌, ◌∙◌}
use native.Mathlib.Omega.{arith}
use lib.Dec.{eqb}
use lib.ListN.{length}
use Rattle.finite.specs.Lists.{tabulate, Picks}
use Rattle.finite.proofs.Tests.{and_elim}
use Rattle.finite.proofs.Lists.{tab_length, tab_at, list_intro, list_none_intro}
use Rattle.model.specs.Instance.{Instance, owner_of}
use Rattle.model.specs.Fairness.{entries_in_range, is_allocation, dominates, dominated}
use Rattle.model.proofs.Allocations.{entry_range}
use Rattle.welfare.proofs.Domination.{Dominating, dominates_intro, dominates_cong}

-- in an owner list in range each entry stands for an agent
pub owner_below : (n m : ℕ) (owners : List ℕ) → entries_in_range n m owners ≡ true → (c : ℕ) → c < m → owner_of owners c < n
unfolding owner_of
owner_below n m owners e c l = let both = entry_range n m owners e c l in omega arith

pub allocation_below : (I : Instance) (y : List ℕ) → is_allocation I y ≡ true → (c : ℕ) → c < I.m → owner_of y c < I.n
unfolding is_allocation
allocation_below I y e = owner_below I.n I.m y (and_elim (eqb (length y) I.m) _ e).1

pub picks_below : {n m : ℕ} {y : List ℕ} → Picks n m y → (c : ℕ) → c < m → owner_of y c < n
unfolding owner_of
picks_below p c l = omega (arith, p.positive c l, p.bounded c l)

-- the list of a function
unfoldable pub list_of : ℕ → (ℕ → ℕ) → List ℕ
list_of m y = tabulate m (λ c. y c + 1)

pub list_of_owner : (m : ℕ) (y : ℕ → ℕ) (c : ℕ) → c < m → owner_of (list_of m y) c ≡ y c
unfolding list_of owner_of
list_of_owner m y c l = omega (arith, tab_at (λ c. y c + 1) c 0 l)

pub list_of_picks : {n m : ℕ} (y : ℕ → ℕ) → ((c : ℕ) → c < m → y c < n) → Picks n m (list_of m y)
unfolding list_of
list_of_picks {n} {m} y range =
    record {
      size = tab_length m (λ c. y c + 1);
      positive = λ c l. omega (arith, tab_at (λ c. y c + 1) c 0 l);
      bounded = λ c l. omega (arith, tab_at (λ c. y c + 1) c 0 l, range c l);
    }

module _ (I : Instance) (x : ℕ → ℕ) where
  -- some list of owners dominates just where some function does

  pub dominated_intro : Dominating I x → dominated I x ≡ true
  unfolding dominated
  dominated_intro d =
      list_intro (λ y. dominates I (owner_of y) x) (list_of_picks d.list d.range)
      (dominates_cong I (owner_of (list_of I.m d.list)) d.list x (list_of_owner I.m d.list) ∙ dominates_intro d.better)

  pub undominated : ((y : ℕ → ℕ) → ((c : ℕ) → c < I.m → y c < I.n) → dominates I y x ≡ false) → dominated I x ≡ false
  unfolding dominated
  undominated none =
      list_none_intro I.n I.m (λ y. dominates I (owner_of y) x) (λ y p. none (owner_of y) (picks_below p))
