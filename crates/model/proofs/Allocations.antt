-- The lists that the definitions admit are those that a search through all lists goes through.
-- Assumes nothing.
use Prim.Native.Nat.{ℕ, ◌≤◌, ◌<◌}
use mathlib.Core.Bool.{true, not}
use mathlib.Core.List.{List}
use mathlib.Core.Path.{◌≡◌}
use lib.Dec.{eqb}
use lib.ListN.{length, get_or}
use borrow.Author.Tests.{eqb-true, eq-eqb, not-true}
use Rattle.finite.proofs.Tests.{and_elim, and_intro, not_on}
use Rattle.finite.proofs.Search.{all_elim, all_intro}
use Rattle.finite.specs.Lists.{Picks}
use Rattle.model.specs.Limits.{out_of_range}
use Rattle.model.specs.Instance.{Instance}
use Rattle.model.specs.Fairness.{entries_in_range, is_allocation}
use Rattle.model.proofs.Range.{range_facts, in_range}

-- an owner list in range: each entry is from 1 to n
pub entry_range : (n m : ℕ) (owners : List ℕ) → entries_in_range n m owners ≡ true → (c : ℕ) → c < m → (0 < get_or owners c 0) × (get_or owners c 0 ≤ n)
unfolding entries_in_range
entry_range n m owners e c l =
    range_facts n (get_or owners c 0) (not-true _ (all_elim m (λ c. not (out_of_range n (get_or owners c 0))) e c l))

pub range_picks : {n m : ℕ} {y : List ℕ} → length y ≡ m → entries_in_range n m y ≡ true → Picks n m y
range_picks {n} {m} {y} size e =
    record { size = size; positive = λ c l. (entry_range n m y e c l).0; bounded = λ c l. (entry_range n m y e c l).1 }

pub picks_range : {n m : ℕ} {y : List ℕ} → Picks n m y → entries_in_range n m y ≡ true
unfolding entries_in_range
picks_range {n} {m} {y} p =
    all_intro m (λ c. not (out_of_range n (get_or y c 0))) (λ c l. not_on (in_range n (get_or y c 0) (p.positive c l) (p.bounded c l)))

module _ (I : Instance) (y : List ℕ) where
  pub allocation_picks : is_allocation I y ≡ true → Picks I.n I.m y
  unfolding is_allocation
  allocation_picks e =
      let both = and_elim (eqb (length y) I.m) (entries_in_range I.n I.m y) e in
      range_picks (eqb-true (length y) I.m both.0) both.1

  pub picks_allocation : Picks I.n I.m y → is_allocation I y ≡ true
  unfolding is_allocation
  picks_allocation p = and_intro (eq-eqb (length y) I.m p.size) (picks_range p)
