-- Laws of one move: what it does to each place, and to the sum over what a place holds.
-- Assumes nothing.
use Prim.Native.Nat.{ℕ, ◌+◌, ◌<◌}
use mathlib.Core.Bool.{cond}
use mathlib.Core.Path.{◌≡◌, sym, ap, ◌∙◌}
use native.Mathlib.Omega.{arith}
use lib.Dec.{eqb}
use borrow.Author.Tests.{ne_eqb}
use Rattle.finite.specs.Sums.{sum_where}
use Rattle.finite.specs.Moves.{Moves}
use Rattle.finite.proofs.Tests.{cond_true, cond_false, eqb_same}
use Rattle.finite.proofs.Below.{by_same}
use Rattle.finite.proofs.Sums.{sum_change}
use Rattle.finite.proofs.Where.{where_test}

-- x with k moved to b
unfoldable pub moved : (ℕ → ℕ) → ℕ → ℕ → ℕ → ℕ
moved x k b c = cond (eqb c k) b (x c)

pub moved_moves : {m : ℕ} (x : ℕ → ℕ) {k a : ℕ} (b : ℕ) → k < m → x k ≡ a → (a ≡ b → ⊥) → Moves m x (moved x k b) k a b
unfolding moved
moved_moves x {k} b l from ne =
    record {
      below = l;
      source = from;
      target = cond_true b (x k) (eqb_same k);
      apart = ne;
      rest = λ c h d. sym (cond_false b (x c) (ne_eqb c k d));
    }

module _ {m : ℕ} {x y : ℕ → ℕ} {k a b : ℕ} (v : Moves m x y k a b) where
  -- what held of every number and its place, and holds of k and b, holds of every number and its new place
  pub moves_each {ℓ} : (P : ℕ → ℕ → Type ℓ) → P k b → ((c : ℕ) → c < m → P c (x c)) → (c : ℕ) → c < m → P c (y c)
  moves_each P new old c l =
      by_same c k (λ e. rw (e, v.target) new) (λ ne. rw (← v.rest c l ne) (old c l))

  -- a third place holds what it held
  pub moves_same : (i : ℕ) → (i ≡ a → ⊥) → (i ≡ b → ⊥) → (c : ℕ) → c < m → eqb (x c) i ≡ eqb (y c) i
  moves_same i na nb c l =
      by_same c k
      (λ e. rw (e, v.source, v.target) (ne_eqb a i (λ q. na (sym q)) ∙ sym (ne_eqb b i (λ q. nb (sym q)))))
      (λ ne. ap (λ o. eqb o i) (v.rest c l ne))

  module _ (f : ℕ → ℕ) where
    -- what place i loses where it is a, and gains where it is b
    pub moves_sum : (i : ℕ) → sum_where m (λ c. eqb (y c) i) f + cond (eqb a i) (f k) 0 ≡ sum_where m (λ c. eqb (x c) i) f + cond (eqb b i) (f k) 0
    unfolding sum_where
    moves_sum i =
        rw (v.source, v.target) at
        (sum_change {n = m} {f = λ c. cond (eqb (y c) i) (f c) 0} {g = λ c. cond (eqb (x c) i) (f c) 0} k v.below (λ c l ne. ap (λ o. cond (eqb o i) (f c) 0) (sym (v.rest c l ne))))

    pub moves_from : sum_where m (λ c. eqb (x c) a) f ≡ sum_where m (λ c. eqb (y c) a) f + f k
    moves_from =
        let s = rw (eqb_same a, ne_eqb b a (λ e. v.apart (sym e))) at (moves_sum a) in
        omega (arith, s)

    pub moves_to : sum_where m (λ c. eqb (y c) b) f ≡ sum_where m (λ c. eqb (x c) b) f + f k
    moves_to =
        let s = rw (eqb_same b, ne_eqb a b v.apart) at (moves_sum b) in
        omega (arith, s)

    pub moves_other : (i : ℕ) → (i ≡ a → ⊥) → (i ≡ b → ⊥) → sum_where m (λ c. eqb (x c) i) f ≡ sum_where m (λ c. eqb (y c) i) f
    moves_other i na nb = where_test m f (moves_same i na nb)
