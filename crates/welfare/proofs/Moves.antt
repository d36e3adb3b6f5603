-- One chore handed over: on an owner list, and what it changes in each agent's cost.
-- Assumes nothing.
use Prim.Native.Nat.{ℕ, ◌+◌, ◌-◌, ◌≤◌, ◌<◌}
use mathlib.Core.Bool.{cond}
use mathlib.Core.List.{List}
use mathlib.Core.Path.{◌≡◌, refl, sym, ap, ◌∙◌}
use native.Mathlib.Nat.{add-sub_cancel}
use native.Mathlib.Omega.{arith}
use lib.Dec.{eqb}
use lib.ListN.{length, set}
use lib.Seq.{get_or-set_same, get_or-set_other}
use borrow.Author.Tests.{eqb-true}
use Rattle.finite.specs.Moves.{Moves}
use Rattle.finite.proofs.Tests.{cond_cong}
use Rattle.finite.proofs.Moves.{moves_sum}
use Rattle.model.specs.Instance.{Instance, cost, owner_of}
use Rattle.model.specs.Fairness.{owns, total, cost_to}

-- an owner list holds numbers from 1: chore c goes from agent h to agent g
pub set_moves : {m : ℕ} (owners : List ℕ) (c : ℕ) {h : ℕ} (g : ℕ) → m ≤ length owners → c < m → owner_of owners c ≡ h → (h ≡ g → ⊥) → Moves m (owner_of owners) (owner_of (set owners c (g + 1))) c h g
unfolding owner_of
set_moves owners c g s l from ne =
    record {
      below = l;
      source = from;
      target = ap (λ v. v - 1) (get_or-set_same owners c (g + 1) 0 (omega arith)) ∙ add-sub_cancel g 1;
      apart = ne;
      rest = λ d k other. ap (λ v. v - 1) (sym (get_or-set_other owners c d (g + 1) 0 other));
    }

-- a cost that counts for agent h alone
only_for : (I : Instance) (h c k : ℕ) {v : ℕ} → cost I h c ≡ v → cond (eqb h k) (cost I k c) 0 ≡ cond (eqb h k) v 0
only_for I h c k q = cond_cong refl (λ p. ap (λ i. cost I i c) (sym (eqb-true h k p)) ∙ q) (λ _. refl)

-- the giver h is relieved of u, the receiver g charged with v, and nobody else is touched
pub moves_cost : (I : Instance) {y z : ℕ → ℕ} {c h g u v : ℕ} → Moves I.m y z c h g → cost I h c ≡ u → cost I g c ≡ v → (k : ℕ) → cost_to I z k k + cond (eqb h k) u 0 ≡ cost_to I y k k + cond (eqb g k) v 0
unfolding cost_to total owns
moves_cost I {c = c} {h} {g} f lost gained k =
    rw (only_for I h c k lost, only_for I g c k gained) at (moves_sum f (cost I k) k)
