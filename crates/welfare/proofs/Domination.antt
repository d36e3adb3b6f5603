-- What it is for one list to dominate another, as facts; and costs that two lists share.
-- Assumes nothing.
use Prim.Native.Nat.{ℕ, ◌≤◌, ◌<◌}
use mathlib.Core.Bool.{Bool, true, false, ◌&&◌}
use mathlib.Core.Path.{◌≡◌, ap, ap₂}
use native.Mathlib.Omega.{arith}
use lib.Dec.{eqb, leb, ltb}
use borrow.Author.Tests.{leb-true, ltb-true, le-leb, lt-ltb}
use Rattle.finite.specs.Search.{any_below, all_below}
use Rattle.finite.proofs.Tests.{not_yes, and_elim, and_intro}
use Rattle.finite.proofs.Search.{any_elim, any_intro, any_cong, all_elim, all_intro, all_cong}
use Rattle.finite.proofs.Sums.{sum_strict}
use Rattle.finite.proofs.Where.{where_test}
use Rattle.model.specs.Instance.{Instance, cost}
use Rattle.model.specs.Fairness.{owns, total, cost_to, total_cost, dominates}

-- y costs nobody more than x, and agent `who` less
pub record Better (I : Instance) (y x : ℕ → ℕ) : Type 0 where
  pub none_more : (i : ℕ) → i < I.n → cost_to I y i i ≤ cost_to I x i i
  pub who : ℕ
  pub below : who < I.n
  pub less : cost_to I y who who < cost_to I x who who

-- a list of agents that dominates x
pub record Dominating (I : Instance) (x : ℕ → ℕ) : Type 0 where
  pub list : ℕ → ℕ
  pub range : (c : ℕ) → c < I.m → list c < I.n
  pub better : Better I list x

pub dominates_elim : (I : Instance) (y x : ℕ → ℕ) → dominates I y x ≡ true → Better I y x
unfolding dominates
dominates_elim I y x e =
    let all : ℕ → Bool = λ i. leb (cost_to I y i i) (cost_to I x i i) in
    let some : ℕ → Bool = λ i. ltb (cost_to I y i i) (cost_to I x i i) in
    let both = and_elim (all_below I.n all) (any_below I.n some) e in
    let r = any_elim I.n some both.1 in
    record {
      none_more = λ i l. leb-true _ _ (all_elim I.n all both.0 i l);
      who = r.index;
      below = r.below;
      less = ltb-true _ _ r.passes;
    }

-- and all together less
pub better_cheaper : {I : Instance} {y x : ℕ → ℕ} → Better I y x → total_cost I y < total_cost I x
unfolding total_cost
better_cheaper b = sum_strict b.none_more b.who b.below b.less

-- "some other list": none dominates itself, so that to try it too changes nothing
pub dominates_self : (I : Instance) (x : ℕ → ℕ) → dominates I x x ≡ false
dominates_self I x = not_yes _ (λ e. let B = dominates_elim I x x e in absurd (omega (arith, B.less)))

pub dominates_intro : {I : Instance} {y x : ℕ → ℕ} → Better I y x → dominates I y x ≡ true
unfolding dominates
dominates_intro {I} {y} {x} b =
    and_intro
    (all_intro I.n (λ i. leb (cost_to I y i i) (cost_to I x i i)) (λ i l. le-leb _ _ (b.none_more i l)))
    (any_intro (λ i. ltb (cost_to I y i i) (cost_to I x i i)) b.who b.below (lt-ltb _ _ b.less))

pub not-dominated : (I : Instance) (y x : ℕ → ℕ) → (Better I y x → ⊥) → dominates I y x ≡ false
not-dominated I y x no-better = not_yes _ (λ e. no-better (dominates_elim I y x e))

-- lists that agree below m have the same totals, and the same standing

pub total_cong : (m : ℕ) (x y f : ℕ → ℕ) (i : ℕ) → ((c : ℕ) → c < m → x c ≡ y c) → total m x f i ≡ total m y f i
unfolding total owns
total_cong m x y f i e = where_test m f (λ c l. ap (λ o. eqb o i) (e c l))

pub cost_cong : (I : Instance) (x y : ℕ → ℕ) (i j : ℕ) → ((c : ℕ) → c < I.m → x c ≡ y c) → cost_to I x i j ≡ cost_to I y i j
unfolding cost_to
cost_cong I x y i j e = total_cong I.m x y (cost I i) j e

pub dominates_cong : (I : Instance) (y z x : ℕ → ℕ) → ((c : ℕ) → c < I.m → y c ≡ z c) → dominates I y x ≡ dominates I z x
unfolding dominates
dominates_cong I y z x e =
    ap₂ ◌&&◌
    (all_cong I.n (λ i l. ap (λ v. leb v (cost_to I x i i)) (cost_cong I y z i i e)))
    (any_cong I.n (λ i l. ap (λ v. ltb v (cost_to I x i i)) (cost_cong I y z i i e)))
