-- An accepted list holds, whoever proposed the prices: the first welfare theorem, and evenness by prices.
-- Assumes nothing.
use Prim.Native.Nat.{ℕ, ◌*◌, ◌≤◌, ◌<◌}
use mathlib.Core.Bool.{Bool, true, false, not, ◌&&◌}
use mathlib.Core.Path.{◌≡◌}
use native.Mathlib.Nat.{mul-le-mul_left, mul-lt-mul_of_pos_left, le_of_mul-le-mul_left, lt_of_mul-lt-mul_left, le_antisymm}
use native.Mathlib.Omega.{arith}
use lib.Dec.{eqb}
use borrow.Author.Tests.{leb-true}
use Rattle.finite.specs.Sums.{sum_to, sum_where}
use Rattle.finite.proofs.Tests.{by_test, and_elim}
use Rattle.finite.proofs.Search.{any_elim, all_elim}
use Rattle.finite.proofs.Sums.{sum_strict}
use Rattle.finite.proofs.Where.{where_scale_eq, where_scale_le, where_zeros, where_empty, where_off}
use Rattle.finite.proofs.Fibres.{fibres}
use Rattle.finite.proofs.Extremes.{peak_attained}
use Rattle.model.specs.Instance.{Instance, cost}
use Rattle.model.specs.Fairness.{owns, holds_any, total, cost_to, cost_without, fair, ef1, dominates}
use Rattle.model.specs.Prices.{ratio_at_most, best, price_sum, dearest, price_up_to_one}
use Rattle.welfare.proofs.Costs.{Weighted, owned, cost_positive}
use Rattle.welfare.proofs.Evenness.{idle_cost, fair_idle, fair_off, ef1_intro}
use Rattle.welfare.proofs.Domination.{not-dominated}

-- each chore has an owner among the agents and a positive price, and is best for its owner
pub record Bought (I : Instance) (x p : ℕ → ℕ) : Type 0 where
  pub owner : (c : ℕ) → c < I.m → x c < I.n
  pub priced : (c : ℕ) → c < I.m → 0 < p c
  pub best_owned : (c : ℕ) → c < I.m → best I p (x c) c ≡ true

-- what the agents pay together is the price of all chores, whoever owns what
price_of_all : (n m : ℕ) (x p : ℕ → ℕ) → ((c : ℕ) → c < m → x c < n) → sum_to n (price_sum m x p) ≡ sum_to m p
unfolding total owns
price_of_all n m x p h = fibres n m x p h

module _ (I : Instance) (x p : ℕ → ℕ) (b : Bought I x p) where
  -- a chore is best for the agent that owns it
  best_of : (i c : ℕ) → c < I.m → owns x i c ≡ true → best I p i c ≡ true
  best_of i c l h = rw (owned x i c h) at (b.best_owned c l)

  -- measured against a best chore, no chore costs less than its price says
  ratio : (i c d : ℕ) → c < I.m → owns x i c ≡ true → d < I.m → cost I i c * p d ≤ p c * cost I i d
  unfolding best ratio_at_most
  ratio i c d l h k =
      omega (arith, leb-true (cost I i c * p d) (cost I i d * p c) (all_elim I.m (λ d. ratio_at_most I p i c d) (best_of i c l h) d k))

  -- and what the agent owns costs just what its price says
  proportion : (i c d : ℕ) → c < I.m → owns x i c ≡ true → d < I.m → owns x i d ≡ true → cost I i c * p d ≡ p c * cost I i d
  proportion i c d l h k g = le_antisymm (ratio i c d l h k) (omega (arith, ratio i d c k g l))

  module _ (i c : ℕ) (l : c < I.m) (h : owns x i c ≡ true) where
    price_at_most : (t : ℕ → Bool) → cost I i c * sum_where I.m t p ≤ p c * sum_where I.m t (cost I i)
    price_at_most t = where_scale_le I.m (cost I i c) (p c) t p (cost I i) (λ d k _. ratio i c d l h k)

    price_just : (t : ℕ → Bool) → ((d : ℕ) → d < I.m → t d ≡ true → owns x i d ≡ true) → cost I i c * sum_where I.m t p ≡ p c * sum_where I.m t (cost I i)
    price_just t own = where_scale_eq I.m (cost I i c) (p c) t p (cost I i) (λ d k e. proportion i c d l h k (own d k e))

    -- for agent i, who owns c: no more cost, no more price
    holder_follows : Weighted I → (y : ℕ → ℕ) → cost_to I y i i ≤ cost_to I x i i → price_sum I.m y p i ≤ price_sum I.m x p i
    unfolding cost_to total
    holder_follows w y g =
        le_of_mul-le-mul_left {k = cost I i c} (omega (arith, price_at_most (owns y i), price_just (owns x i) (λ d k q. q), mul-le-mul_left (p c) g)) (cost_positive I i c w)

    -- and less cost, less price
    holder_falls : (y : ℕ → ℕ) → cost_to I y i i < cost_to I x i i → price_sum I.m y p i < price_sum I.m x p i
    unfolding cost_to total
    holder_falls y g =
        lt_of_mul-lt-mul_left (cost I i c) (omega (arith, price_at_most (owns y i), price_just (owns x i) (λ d k q. q), mul-lt-mul_of_pos_left g (b.priced c l)))

    -- i's dearest chore taken off, the rest costs i no more than j's chores would
    dearest_off : (j : ℕ) → p c ≡ dearest I.m x p i → price_up_to_one I.m x p i ≤ price_sum I.m x p j → cost_without I x i c ≤ cost_to I x i j
    unfolding cost_without cost_to total price_up_to_one
    dearest_off j top g =
        let others : ℕ → Bool = λ d. owns x i d && not (eqb d c) in
        let off = where_off (owns x i) p c l h in
        let rest : sum_where I.m others p ≤ sum_where I.m (owns x j) p = omega arith in
        le_of_mul-le-mul_left {k = p c} (omega (arith, price_just others (λ d k q. (and_elim (owns x i d) (not (eqb d c)) q).0), price_at_most (owns x j), mul-le-mul_left (cost I i c) rest)) (b.priced c l)

  -- an agent without chores has none in a list that costs it no more either
  idle_follows : Weighted I → (y : ℕ → ℕ) (i : ℕ) → holds_any I.m x i ≡ false → cost_to I y i i ≤ cost_to I x i i → price_sum I.m y p i ≡ 0
  unfolding cost_to total
  idle_follows w y i e g =
      let free = where_empty I.m (owns y i) (cost I i) (omega (arith, idle_cost I x i i e)) in
      where_zeros I.m (owns y i) {f = p} (λ c k q. absurd (omega (arith, free c k q, cost_positive I i c w)))

  module _ (y : ℕ → ℕ) (i : ℕ) where
    price_follows : Weighted I → cost_to I y i i ≤ cost_to I x i i → price_sum I.m y p i ≤ price_sum I.m x p i
    unfolding holds_any
    price_follows w g =
        by_test (holds_any I.m x i)
        (λ e. let r = any_elim I.m (owns x i) e in holder_follows i r.index r.below r.passes w y g)
        (λ e. omega (arith, idle_follows w y i e g))

    price_falls : cost_to I y i i < cost_to I x i i → price_sum I.m y p i < price_sum I.m x p i
    unfolding holds_any
    price_falls g =
        by_test (holds_any I.m x i)
        (λ e. let r = any_elim I.m (owns x i) e in holder_falls i r.index r.below r.passes y g)
        (λ e. absurd (omega (arith, idle_cost I x i i e)))

  -- no list dominates: it would have to cost less in all, at these prices
  pub bought_efficient : Weighted I → (y : ℕ → ℕ) → ((c : ℕ) → c < I.m → y c < I.n) → dominates I y x ≡ false
  bought_efficient w y h = not-dominated I y x λ better.
      let less = sum_strict {n = I.n} {f = λ i. price_sum I.m y p i} {g = λ i. price_sum I.m x p i} (λ i l. price_follows y i w (better.none_more i l)) better.who better.below (price_falls y better.who better.less) in
      omega (arith, price_of_all I.n I.m y p h, price_of_all I.n I.m x p b.owner)

  bought_fair : (i j : ℕ) → (holds_any I.m x i ≡ true → price_up_to_one I.m x p i ≤ price_sum I.m x p j) → fair I x i j ≡ true
  unfolding holds_any dearest
  bought_fair i j h = by_test (holds_any I.m x i) off (fair_idle I x i j)
    where
      off : holds_any I.m x i ≡ true → fair I x i j ≡ true
      off e =
          let r = any_elim I.m (owns x i) e in
          let d = peak_attained (owns x i) p r.index r.below r.passes in
          fair_off I x i j d.index d.below d.passes (dearest_off i d.index d.below d.passes j d.value (h e))

  -- nobody's price-one above anybody's price sum: the list is even
  pub bought_even : ((i j : ℕ) → i < I.n → j < I.n → holds_any I.m x i ≡ true → price_up_to_one I.m x p i ≤ price_sum I.m x p j) → ef1 I x ≡ true
  bought_even h = ef1_intro I x (λ i j l k. bought_fair i j (h i j l k))
