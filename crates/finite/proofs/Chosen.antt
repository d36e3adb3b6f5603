-- Laws of the first passing number that no other passing number is better than.
-- Assumes nothing.
use Prim.Native.Nat.{ℕ, ◌+◌, ◌≤◌, ◌<◌}
use mathlib.Core.Bool.{Bool, true, false, not, ◌&&◌}
use mathlib.Core.Path.{◌≡◌, ap₂}
use native.Mathlib.Omega.{arith}
use lib.Dec.{ltb}
use borrow.Author.Tests.{ltb-true, ltb-false, le-ltb, not-true, not-false}
use borrow.Author.Count.{below_more}
use Rattle.finite.specs.Search.{any_below, chosen, Hit}
use Rattle.finite.proofs.Tests.{and_elim, and_intro, and_rest, and_no_left, and_no_right, not_on, not_off, by_test}
use Rattle.finite.proofs.Search.{any_intro, any_elim, any_none, any_none_intro, any_cong, found, first_unique, first_none_intro, first_cong}

-- what a choice is: it passes, none that passes is better, and each that passes before it has a better one
pub record Chosen (n : ℕ) (t : ℕ → Bool) (better : ℕ → ℕ → Bool) (r : ℕ) : Type 0 where
  pub below : r < n
  pub passes : t r ≡ true
  pub best : (j : ℕ) → j < n → t j ≡ true → better j r ≡ false
  pub before : (i : ℕ) → i < r → t i ≡ true → Hit n (λ j. t j && better j i)

-- a strict order, of which being not better is transitive too
pub record Order (better : ℕ → ℕ → Bool) : Type 0 where
  pub asym : (i j : ℕ) → better i j ≡ true → better j i ≡ false
  pub through : (i j k : ℕ) → better j i ≡ false → better k j ≡ false → better k i ≡ false

module _ (n : ℕ) (t : ℕ → Bool) (better : ℕ → ℕ → Bool) where
  pub chosen_found : chosen n t better < n → Chosen n t better (chosen n t better)
  unfolding chosen
  chosen_found l =
      let f = found n (λ i. t i && not (any_below n (λ j. t j && better j i))) l in
      let r = chosen n t better in
      let both = and_elim (t r) (not (any_below n (λ j. t j && better j r))) f.passes in
      record {
        below = l;
        passes = both.0;
        best = λ j h p. and_rest (better j r) (any_none n (λ j. t j && better j r) (not-true _ both.1) j h) p;
        before = λ i h p. any_elim n (λ j. t j && better j i) (not-false _ (and_rest _ (f.before i h) p));
      }

  pub chosen_none : ((i : ℕ) → i < n → t i ≡ false) → chosen n t better ≡ n
  unfolding chosen
  chosen_none h = first_none_intro n _ (λ i l. and_no_left _ (h i l))

pub chosen_unique : {n : ℕ} {t : ℕ → Bool} {better : ℕ → ℕ → Bool} {r : ℕ} → Chosen n t better r → chosen n t better ≡ r
unfolding chosen
chosen_unique {n} {t} {better} {r} c =
    first_unique
    (record {
      below = c.below;
      passes = and_intro c.passes (not_on (any_none_intro n (λ j. t j && better j r) (λ j l. none j l)));
      before = λ i l. by_test (t i) (λ p. let h = c.before i l p in and_no_right (t i) (not_off (any_intro (λ j. t j && better j i) h.index h.below h.passes))) (λ p. and_no_left _ p);
    })
  where
    none : (j : ℕ) → j < n → t j && better j r ≡ false
    none j l = by_test (t j) (λ p. and_no_right (t j) (c.best j l p)) (λ p. and_no_left _ p)

-- equal tests, and orders equal below n
pub chosen_cong : (n : ℕ) {t u : ℕ → Bool} {better finer : ℕ → ℕ → Bool} → ((i : ℕ) → i < n → t i ≡ u i) → ((j i : ℕ) → j < n → i < n → better j i ≡ finer j i) → chosen n t better ≡ chosen n u finer
unfolding chosen
chosen_cong n h e = first_cong n (λ i l. ap₂ (λ a b. a && not b) (h i l) (any_cong n (λ j m. ap₂ ◌&&◌ (h j m) (e j i m l))))

-- one more number, which does not pass or is not better
pub chosen_more : {k : ℕ} {t : ℕ → Bool} {better : ℕ → ℕ → Bool} {r : ℕ} → Chosen k t better r → (t k ≡ true → better k r ≡ false) → Chosen (k + 1) t better r
chosen_more {k} {t} {better} {r} c h =
    record {
      below = omega arith;
      passes = c.passes;
      best = below_more (λ j. t j ≡ true → better j r ≡ false) k c.best h;
      before = λ i l p. let w = c.before i l p in record { index = w.index; below = omega arith; passes = w.passes };
    }

-- in an order

module _ {better : ℕ → ℕ → Bool} (o : Order better) where
  pub order_same : (i : ℕ) → better i i ≡ false
  order_same i = by_test (better i i) (λ e. o.asym i i e) (λ e. e)

  pub chosen_intro : {n : ℕ} {t : ℕ → Bool} {r : ℕ} → r < n → t r ≡ true → ((j : ℕ) → j < n → t j ≡ true → better j r ≡ false) → ((i : ℕ) → i < r → t i ≡ true → better r i ≡ true) → Chosen n t better r
  chosen_intro {n} {t} {r} l p best ahead =
      record {
        below = l;
        passes = p;
        best = best;
        before = λ i h q. record { index = r; below = l; passes = and_intro p (ahead i h q) };
      }

-- smaller and greater by a key f

abbrev pub smaller : (ℕ → ℕ) → ℕ → ℕ → Bool
smaller f = λ j i. ltb (f j) (f i)

abbrev pub greater : (ℕ → ℕ) → ℕ → ℕ → Bool
greater f = λ j i. ltb (f i) (f j)

pub smaller_order : (f : ℕ → ℕ) → Order (smaller f)
smaller_order f =
    record {
      asym = λ i j e. le-ltb (f j) (f i) (omega (arith, ltb-true (f i) (f j) e));
      through = λ i j k e h. le-ltb (f k) (f i) (omega (arith, ltb-false (f j) (f i) e, ltb-false (f k) (f j) h));
    }

pub greater_order : (f : ℕ → ℕ) → Order (greater f)
greater_order f =
    record {
      asym = λ i j e. le-ltb (f i) (f j) (omega (arith, ltb-true (f j) (f i) e));
      through = λ i j k e h. le-ltb (f i) (f k) (omega (arith, ltb-false (f i) (f j) e, ltb-false (f j) (f k) h));
    }

module _ {n : ℕ} {t : ℕ → Bool} (f : ℕ → ℕ) {r : ℕ} where
  pub smallest_le : Chosen n t (smaller f) r → (j : ℕ) → j < n → t j ≡ true → f r ≤ f j
  smallest_le c j l p = ltb-false (f j) (f r) (c.best j l p)

  pub greatest_ge : Chosen n t (greater f) r → (j : ℕ) → j < n → t j ≡ true → f j ≤ f r
  greatest_ge c j l p = ltb-false (f r) (f j) (c.best j l p)
