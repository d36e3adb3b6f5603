-- What a chore costs: one of two weights.
-- Assumes nothing.
use Prim.Native.Nat.{ℕ, ◌≤◌, ◌<◌}
use mathlib.Core.Bool.{true, false, not, ◌&&◌}
use mathlib.Core.List.{List}
use mathlib.Core.Path.{◌≡◌}
use native.Mathlib.Nat.{le_refl, le_of_lt}
use native.Mathlib.Omega.{arith}
use borrow.Author.Tests.{not-true, eqb-true, eq-eqb, ne_eqb}
use Rattle.finite.proofs.Tests.{cond-le, le-cond, and_elim, and_intro, not_on}
use Rattle.finite.proofs.Search.{any_elim, any_intro}
use Rattle.model.specs.Instance.{Instance, cost}
use Rattle.model.specs.Sheet.{as_marked}
use Rattle.model.specs.Fairness.{owns}
use Rattle.sheet.specs.Valid.{Valid}
use Rattle.welfare.specs.Waste.{burdened, passes_on}

-- the weights are positive and in order
pub record Weighted (I : Instance) : Type 0 where
  pub easy_positive_lem : 0 < I.a
  pub easy_least : I.a ≤ I.b

pub marked_weighted : {s : List ℕ} → Valid s → Weighted (as_marked s)
unfolding as_marked
marked_weighted v = record { easy_positive_lem = v.easy_positive; easy_least = le_of_lt v.easier }

pub owned : (x : ℕ → ℕ) (i c : ℕ) → owns x i c ≡ true → x c ≡ i
unfolding owns
owned x i c e = eqb-true (x c) i e

pub owned_by : (x : ℕ → ℕ) (i c : ℕ) → x c ≡ i → owns x i c ≡ true
unfolding owns
owned_by x i c e = eq-eqb (x c) i e

pub owned_not : (x : ℕ → ℕ) (i c : ℕ) → (x c ≡ i → ⊥) → owns x i c ≡ false
unfolding owns
owned_not x i c h = ne_eqb (x c) i h

module _ (I : Instance) (i c : ℕ) where
  pub cost_easy : I.easy i c ≡ true → cost I i c ≡ I.a
  unfolding cost
  cost_easy e = rw e

  pub cost_difficult : I.easy i c ≡ false → cost I i c ≡ I.b
  unfolding cost
  cost_difficult e = rw e

  pub cost_at_most : I.a ≤ I.b → cost I i c ≤ I.b
  unfolding cost
  cost_at_most le = cond-le (I.easy i c) (λ e. le) (λ e. le_refl _)

  pub cost_at_least : I.a ≤ I.b → I.a ≤ cost I i c
  unfolding cost
  cost_at_least le = le-cond (I.easy i c) (λ e. le_refl _) (λ e. le)

  pub cost_positive : Weighted I → 0 < cost I i c
  cost_positive w = omega (arith, cost_at_least w.easy_least)

-- a chore of agent i that is difficult for i
pub record Burden (I : Instance) (x : ℕ → ℕ) (i : ℕ) : Type 0 where
  pub chore : ℕ
  pub below : chore < I.m
  pub owner : x chore ≡ i
  pub difficult : I.easy i chore ≡ false

-- a chore of agent i that is easy for i and easy for agent j
pub record Passable (I : Instance) (x : ℕ → ℕ) (i j : ℕ) : Type 0 where
  pub chore : ℕ
  pub below : chore < I.m
  pub owner : x chore ≡ i
  pub easy_here_lem : I.easy i chore ≡ true
  pub easy_there_lem : I.easy j chore ≡ true

module _ (I : Instance) (x : ℕ → ℕ) where
  pub burden_elim : (i : ℕ) → burdened I x i ≡ true → Burden I x i
  unfolding burdened
  burden_elim i e =
      let r = any_elim I.m (λ c. owns x i c && not (I.easy i c)) e in
      let both = and_elim (owns x i r.index) (not (I.easy i r.index)) r.passes in
      record {
        chore = r.index;
        below = r.below;
        owner = owned x i r.index both.0;
        difficult = not-true (I.easy i r.index) both.1;
      }

  pub burden_intro : (i c : ℕ) → c < I.m → x c ≡ i → I.easy i c ≡ false → burdened I x i ≡ true
  unfolding burdened
  burden_intro i c l e d =
      any_intro (λ c. owns x i c && not (I.easy i c)) c l (and_intro (owned_by x i c e) (not_on d))

  pub passes_elim : (i j : ℕ) → passes_on I x i j ≡ true → Passable I x i j
  unfolding passes_on
  passes_elim i j e =
      let r = any_elim I.m (λ c. owns x i c && (I.easy i c && I.easy j c)) e in
      let c = r.index in
      let both = and_elim (owns x i c) (I.easy i c && I.easy j c) r.passes in
      let two = and_elim (I.easy i c) (I.easy j c) both.1 in
      record { chore = c; below = r.below; owner = owned x i c both.0; easy_here_lem = two.0; easy_there_lem = two.1 }

  pub passes_intro : (i j c : ℕ) → c < I.m → x c ≡ i → I.easy i c ≡ true → I.easy j c ≡ true → passes_on I x i j ≡ true
  unfolding passes_on
  passes_intro i j c l e h k =
      any_intro (λ c. owns x i c && (I.easy i c && I.easy j c)) c l (and_intro (owned_by x i c e) (and_intro h k))
