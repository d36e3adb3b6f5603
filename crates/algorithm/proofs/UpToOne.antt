-- Price sums and price-one: what is left of `price_up_to_one` once these laws stand, so that no other file unfolds it.
-- Assumes nothing.
use Prim.Native.Nat.{ℕ, ◌+◌, ◌-◌, ◌*◌, ◌≤◌, ◌<◌}
use mathlib.Core.Path.{◌≡◌, refl, sym, ap, ◌∙◌}
use native.Mathlib.Nat.{le_refl, le_of_eq}
use native.Mathlib.Omega.{arith}
use lib.Dec.{eqb}
use borrow.Author.Tests.{eq-eqb, eqb-true}
use Rattle.finite.specs.Search.{Hit}
use Rattle.finite.specs.Moves.{Moves}
use Rattle.finite.proofs.Below.{by_same}
use Rattle.finite.proofs.Where.{peak_within, where_positive, where_cong, where_scale_eq}
use Rattle.finite.proofs.Extremes.{peak_above, peak_at_most, peak_cong, peak_scale}
use Rattle.finite.proofs.Moves.{moves_same, moves_from, moves_to, moves_other}
use Rattle.model.specs.Fairness.{owns, total}
use Rattle.model.specs.Prices.{price_sum, dearest, price_up_to_one}
use Rattle.algorithm.specs.Chain.{Swaps}

module _ (m : ℕ) (x p : ℕ → ℕ) (i : ℕ) where
  pub dearest-above : (c : ℕ) → c < m → x c ≡ i → p c ≤ dearest m x p i
  unfolding dearest owns
  dearest-above c h e = peak_above (owns x i) p c h (eq-eqb (x c) i e)

  pub dearest_under : (top : ℕ) → ((c : ℕ) → c < m → x c ≡ i → p c ≤ top) → dearest m x p i ≤ top
  unfolding dearest owns
  dearest_under top h = peak_at_most m (owns x i) (λ c l o. h c l (eqb-true (x c) i o))

  dearest_part : dearest m x p i ≤ price_sum m x p i
  unfolding dearest total
  dearest_part = peak_within m (owns x i) p

  pub up_dearest : price_up_to_one m x p i + dearest m x p i ≡ price_sum m x p i
  unfolding price_up_to_one
  up_dearest = omega (arith, dearest_part)

  pub up_le : price_up_to_one m x p i ≤ price_sum m x p i
  up_le = omega (arith, up_dearest)

  -- any one chore taken off leaves price-one or more
  pub up_off : (c : ℕ) → c < m → x c ≡ i → price_up_to_one m x p i + p c ≤ price_sum m x p i
  up_off c h e = omega (arith, up_dearest, dearest-above c h e)

  pub up_near : (top : ℕ) → ((c : ℕ) → c < m → x c ≡ i → p c ≤ top) → price_sum m x p i ≤ price_up_to_one m x p i + top
  up_near top h = omega (arith, up_dearest, dearest_under top h)

  -- a dearest chore taken off leaves just price-one
  pub up_top : (c : ℕ) → c < m → x c ≡ i → ((d : ℕ) → d < m → x d ≡ i → p d ≤ p c) → price_up_to_one m x p i + p c ≡ price_sum m x p i
  up_top c h e k = omega (arith, up_off c h e, up_near (p c) k)

  -- whoever has a sum holds a chore
  pub sum_holds : 0 < price_sum m x p i → Hit m (owns x i)
  unfolding total
  sum_holds h =
      let r = where_positive m (owns x i) p h in
      record { index = r.index; below = r.below; passes = r.passes }

pub sum_same : (m : ℕ) {x y p q : ℕ → ℕ} (i : ℕ) → ((c : ℕ) → c < m → x c ≡ y c) → ((c : ℕ) → c < m → x c ≡ i → p c ≡ q c) → price_sum m x p i ≡ price_sum m y q i
unfolding total owns
sum_same m {y} i h k =
    where_cong m (λ c l. ap (λ o. eqb o i) (h c l)) (λ c l o. k c l (h c l ∙ eqb-true (y c) i o))

dearest_same : (m : ℕ) {x y p q : ℕ → ℕ} (i : ℕ) → ((c : ℕ) → c < m → x c ≡ y c) → ((c : ℕ) → c < m → x c ≡ i → p c ≡ q c) → dearest m x p i ≡ dearest m y q i
unfolding dearest owns
dearest_same m {y} i h k =
    peak_cong m (λ c l. ap (λ o. eqb o i) (h c l)) (λ c l o. k c l (h c l ∙ eqb-true (y c) i o))

pub up_same : (m : ℕ) {x y p q : ℕ → ℕ} (i : ℕ) → ((c : ℕ) → c < m → x c ≡ y c) → ((c : ℕ) → c < m → x c ≡ i → p c ≡ q c) → price_up_to_one m x p i ≡ price_up_to_one m y q i
up_same m {x} {y} {p} {q} i h k =
    omega (arith, up_dearest m x p i, up_dearest m y q i, sum_same m i h k, dearest_same m i h k)

pub sum_scaled : (m k l : ℕ) (x p q : ℕ → ℕ) (i : ℕ) → ((c : ℕ) → c < m → x c ≡ i → k * p c ≡ l * q c) → k * price_sum m x p i ≡ l * price_sum m x q i
unfolding total owns
sum_scaled m k l x p q i h = where_scale_eq m k l (owns x i) p q (λ c n o. h c n (eqb-true (x c) i o))

dearest_scaled : (m k l : ℕ) (x p q : ℕ → ℕ) (i : ℕ) → ((c : ℕ) → c < m → x c ≡ i → k * p c ≡ l * q c) → k * dearest m x p i ≡ l * dearest m x q i
unfolding dearest owns
dearest_scaled m k l x p q i h =
    peak_scale m k (owns x i) p
    ∙ peak_cong m (λ c n. refl) (λ c n o. h c n (eqb-true (x c) i o))
    ∙ sym (peak_scale m l (owns x i) q)

pub up_scaled : (m k l : ℕ) (x p q : ℕ → ℕ) (i : ℕ) → ((c : ℕ) → c < m → x c ≡ i → k * p c ≡ l * q c) → k * price_up_to_one m x p i ≡ l * price_up_to_one m x q i
up_scaled m k l x p q i h =
    omega (arith, ap (λ s. k * s) (up_dearest m x p i), ap (λ s. l * s) (up_dearest m x q i), sum_scaled m k l x p q i h, dearest_scaled m k l x p q i h)

-- chore k goes from agent w to agent u
module _ {m : ℕ} {x y : ℕ → ℕ} {k w u : ℕ} (v : Moves m x y k w u) (p : ℕ → ℕ) where
  pub give_sum : price_sum m x p w ≡ price_sum m y p w + p k
  unfolding total owns
  give_sum = moves_from v p

  pub take-sum : price_sum m y p u ≡ price_sum m x p u + p k
  unfolding total owns
  take-sum = moves_to v p

  pub other_sum : (i : ℕ) → (i ≡ w → ⊥) → (i ≡ u → ⊥) → price_sum m y p i ≡ price_sum m x p i
  unfolding total owns
  other_sum i a b = sym (moves_other v p i a b)

  give_dearest : dearest m x p w ≤ dearest m y p w + p k
  give_dearest =
      dearest_under m x p w (dearest m y p w + p k) λ c l o.
      by_same c k
      (λ e. rw e (omega arith))
      (λ ne. omega (arith, dearest-above m y p w c l (sym (v.rest c l ne) ∙ o)))

  give_up : price_up_to_one m y p w ≤ price_up_to_one m x p w
  give_up = omega (arith, up_dearest m x p w, up_dearest m y p w, give_sum, give_dearest)

  pub give_leaves : price_up_to_one m x p w ≤ price_sum m y p w
  give_leaves = omega (arith, up_off m x p w k v.below v.source, give_sum)

  pub take_up : price_up_to_one m y p u ≤ price_sum m x p u
  take_up = omega (arith, up_off m y p u k v.below v.target, take-sum)

  -- what comes is as dear as anything held: price-one becomes the old sum
  pub take_top : ((c : ℕ) → c < m → x c ≡ u → p c ≤ p k) → price_up_to_one m y p u ≡ price_sum m x p u
  take_top h = omega (arith, up_top m y p u k v.below v.target top, take-sum)
    where
      top : (d : ℕ) → d < m → y d ≡ u → p d ≤ p k
      top d l o = by_same d k (λ e. rw e (le_refl (p k))) (λ ne. h d l (v.rest d l ne ∙ o))

  other_dearest : (i : ℕ) → (i ≡ w → ⊥) → (i ≡ u → ⊥) → dearest m y p i ≡ dearest m x p i
  unfolding dearest owns
  other_dearest i a b = peak_cong m (λ c l. sym (moves_same v i a b c l)) (λ c l o. refl)

  other_up : (i : ℕ) → (i ≡ w → ⊥) → (i ≡ u → ⊥) → price_up_to_one m y p i ≡ price_up_to_one m x p i
  other_up i a b = omega (arith, up_dearest m x p i, up_dearest m y p i, other_sum i a b, other_dearest i a b)

  -- price-one grows for the receiver alone
  pub up_others : (i : ℕ) → (i ≡ u → ⊥) → price_up_to_one m y p i ≤ price_up_to_one m x p i
  up_others i ne = by_same i w (λ e. rw e give_up) (λ a. le_of_eq (other_up i a ne))

-- the relief lemma: whoever gets a chore and then gives away one that is no cheaper has no greater price-one than before
pub relief : {m : ℕ} {x y z p : ℕ → ℕ} {k w u e r : ℕ} → Swaps m x y z p k w u e r → price_up_to_one m z p u ≤ price_up_to_one m x p u
relief {m} {x} {y} {z} {p} {k} {w} {u} {e} {r} s =
    omega (arith, up_dearest m x p u, up_dearest m z p u, take-sum s.gets p, give_sum s.gives p, s.no_cheaper, dearest_under m x p u (dearest m z p u + (p e - p k)) kept)
  where
    kept : (c : ℕ) → c < m → x c ≡ u → p c ≤ dearest m z p u + (p e - p k)
    kept c l o =
        let old : c ≡ k → ⊥ = λ q. s.gets.apart (sym s.gets.source ∙ ap x (sym q) ∙ o) in
        by_same c e
        (λ q. let new : k ≡ e → ⊥ = λ j. old (q ∙ sym j) in rw q (omega (arith, s.no_cheaper, dearest-above m z p u k s.gets.below (sym (s.gives.rest k s.gets.below new) ∙ s.gets.target))))
        (λ n. omega (arith, dearest-above m z p u c l (sym (s.gives.rest c l n) ∙ sym (s.gets.rest c l old) ∙ o)))
