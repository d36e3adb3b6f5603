-- What holds of every sheet that breaks no rule, whatever its marks.
use Rattle.std.specs.Prelude.{ℕ, ◌*◌, ◌≤◌, ◌<◌, true, List, ◌⊎◌, ◌≡◌}
use Rattle.model.specs.Instance.{Instance, owner_of}
use Rattle.model.specs.Sheet.{chores_of, easy_weight, difficult_weight, as_read}
use Rattle.model.specs.Fairness.{total_cost, is_allocation}
use Rattle.model.specs.Algorithm.{State, busy, cut, opening, owner, price, group, action, in_new_group, after_cut, after}
use Rattle.model.specs.Promises.{Demand3, FewMoves}

-- A cut from the state s: nobody is cut who was cut before, and each price divides exactly.
pub record CleanCut (I : Instance) (s : State) : Type 0 where
  pub once : (i : ℕ) → i < I.n → in_new_group I s i ≡ true → group I s i ≡ 0
  pub exact : (c : ℕ) → c < I.m → in_new_group I s (owner I s c) ≡ true → price I s c * I.a ≡ price I (after_cut I s) c * I.b

-- The owners are a list of m from 1 to n, and no such list costs less in total.
pub record CostsLeast (I : Instance) (owners : List ℕ) : Type 0 where
  pub allocation : is_allocation I owners ≡ true
  pub least : (y : List ℕ) → is_allocation I y ≡ true → total_cost I (owner_of owners) ≤ total_cost I (owner_of y)

pub record Theorem (s : List ℕ) : Type 0 where
  -- document 02, request 2: the opening "in that reading also costs least in total"
  pub opens : CostsLeast (as_read s) (opening (as_read s)).owners
  -- the state in which Algorithm 1 ends, and demand 3 of it
  pub final : State
  pub demand3 : Demand3 s final
  -- its prices are a·a, a·b or b·b
  pub kinds :
      (c : ℕ) → c < chores_of s
      → (price (as_read s) final c ≡ easy_weight s * easy_weight s)
      ⊎ ((price (as_read s) final c ≡ easy_weight s * difficult_weight s)
      ⊎ (price (as_read s) final c ≡ difficult_weight s * difficult_weight s))
  -- each cut of the run is a clean one
  pub clean : (k : ℕ) (x : State) → after (as_read s) k ≡ busy x → action (as_read s) x ≡ cut → CleanCut (as_read s) x
  -- its moves are few, whatever the weights
  pub few : FewMoves s final
