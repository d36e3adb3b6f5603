-- The walk from a connected agent to a burdened one, which makes a dominating list.
use Rattle.std.specs.Prelude.{ℕ, ◌+◌, ◌<◌, true, false, cond, ◌≡◌, eqb}
use Rattle.model.specs.Instance.{Instance}
use Rattle.model.specs.Fairness.{cost_to}
use Rattle.welfare.specs.Waste.{connected}

-- On the way: y is the list so far, and agent h, first connected in t steps, has one easy chore too many. The owner of c in x has been
-- relieved of it, and for everybody else y costs what x does. What the agents still to be met own in x they own in y, c apart.
pub record Walking (I : Instance) (x : ℕ → ℕ) (c : ℕ) (y : ℕ → ℕ) (h t : ℕ) : Type 0 where
  pub here : h < I.n
  pub reached : connected I x t h ≡ true
  pub nearest : (s : ℕ) → s < t → connected I x s h ≡ false
  pub range : (d : ℕ) → d < I.m → y d < I.n
  pub kept : (d : ℕ) → d < I.m → (d ≡ c → ⊥) → connected I x t (x d) ≡ true → y d ≡ x d
  pub costs : (k : ℕ) → cost_to I y k k + cond (eqb (x c) k) I.b 0 ≡ cost_to I x k k + cond (eqb h k) I.a 0
