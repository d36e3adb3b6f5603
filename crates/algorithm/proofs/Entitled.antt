-- The entitled chores while an uncut one moves.
-- Assumes nothing.
use Prim.Native.Nat.{ℕ, ◌≤◌, ◌<◌}
use mathlib.Core.Bool.{Bool, false}
use mathlib.Core.Path.{◌≡◌, sym, ◌∙◌}
use native.Mathlib.Omega.{arith}
use Rattle.finite.specs.Moves.{Moves}
use Rattle.finite.proofs.Tests.{cond_false}
use Rattle.finite.proofs.Below.{by_same}
use Rattle.model.specs.Instance.{Instance}
use Rattle.model.specs.Prices.{price_sum, dearest, price_up_to_one}
use Rattle.algorithm.specs.Phases.{cut_price, Entitled}
use Rattle.algorithm.proofs.UpToOne.{up_dearest, up_near, dearest-above, give_sum, take-sum, other_sum}

-- with a sum as small as y's, and something as dear as anything that i has in y, price-one is as small too
up_under : (m : ℕ) (x y p : ℕ → ℕ) (i : ℕ) → price_sum m x p i ≤ price_sum m y p i → ((c : ℕ) → c < m → y c ≡ i → p c ≤ dearest m x p i) → price_up_to_one m x p i ≤ price_up_to_one m y p i
up_under m x y p i le h = omega (arith, up_dearest m x p i, up_near m y p i (dearest m x p i) h)

-- a chore that counts for nothing moves
module _ {m : ℕ} {x y : ℕ → ℕ} {k w u : ℕ} (v : Moves m x y k w u) (q : ℕ → ℕ) (none : q k ≡ 0) where
  nothing_sum : (i : ℕ) → price_sum m y q i ≡ price_sum m x q i
  nothing_sum i =
      by_same i w
      (λ e. rw e (omega (arith, give_sum v q)))
      (λ a. by_same i u (λ e. rw e (omega (arith, take-sum v q))) (λ b. other_sum v q i a b))

  nothing_up : (i : ℕ) → price_up_to_one m y q i ≡ price_up_to_one m x q i
  nothing_up i =
      let s = nothing_sum i in
      omega (arith, up_under m x y q i (omega arith) back, up_under m y x q i (omega arith) forth)
    where
      back : (c : ℕ) → c < m → y c ≡ i → q c ≤ dearest m x q i
      back c l o = by_same c k (λ e. rw (e, none) (omega arith)) (λ ne. dearest-above m x q i c l (v.rest c l ne ∙ o))

      forth : (c : ℕ) → c < m → x c ≡ i → q c ≤ dearest m y q i
      forth c l o = by_same c k (λ e. rw (e, none) (omega arith)) (λ ne. dearest-above m y q i c l (sym (v.rest c l ne) ∙ o))

pub entitled_moved : {I : Instance} {x y p group : ℕ → ℕ} {cut : ℕ → Bool} {top k w u : ℕ} → Entitled I p group cut x top → Moves I.m x y k w u → cut k ≡ false → Entitled I p group cut y top
unfolding cut_price
entitled_moved {p} {cut} {k} e v f = record {
  order = λ i j hi hj g l. rw (nothing_up v (cut_price p cut) none i, nothing_sum v (cut_price p cut) none j) (e.order i j hi hj g l);
  under = λ i hi g. rw (nothing_up v (cut_price p cut) none i) (e.under i hi g);
}
  where
    none : cut_price p cut k ≡ 0
    none = cond_false (p k) 0 f
