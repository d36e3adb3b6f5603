-- Laws of the greatest and the least value over the numbers below a bound.
-- Assumes nothing.
use Prim.Native.Nat.{ℕ, zero, suc, ◌+◌, ◌*◌, ◌≤◌, ◌<◌, min, max, zero-le}
use mathlib.Core.Bool.{Bool, true, false, cond}
use mathlib.Core.Path.{◌≡◌, refl, sym, ap, ap₂, ◌∙◌}
use native.Mathlib.Nat.{le_refl, le_trans, add-zero, add-suc, mul-zero, mul-le-mul_left, max-eq_left, max-eq_right, le_of_lt}
use native.Mathlib.Numerals.{add-one}
use native.Mathlib.Omega.{arith}
use lib.Dec.{leb}
use borrow.Author.Tests.{leb-true, le-leb}
use Rattle.finite.specs.Sums.{max_to, max_where, min_to}
use Rattle.finite.specs.Search.{all_below}
use Rattle.finite.proofs.Tests.{by_test, bool_eq, cond_cong, cond-le, cond_scale}
use Rattle.finite.proofs.Below.{none_below, by_top, lower, by_less}
use Rattle.finite.proofs.Search.{all_elim, all_intro}

-- l is the greatest of f 0 .. f (n - 1)
pub record Top (n : ℕ) (f : ℕ → ℕ) (l : ℕ) : Type 0 where
  pub index : ℕ
  pub below : index < n
  pub value : f index ≡ l
  pub above : (i : ℕ) → i < n → f i ≤ l

-- l is the greatest f among those below n that pass
pub record Peak (n : ℕ) (t : ℕ → Bool) (f : ℕ → ℕ) (l : ℕ) : Type 0 where
  pub index : ℕ
  pub below : index < n
  pub passes : t index ≡ true
  pub value : f index ≡ l
  pub above : (i : ℕ) → i < n → t i ≡ true → f i ≤ l

-- l is the least of f 0 .. f (n - 1)
pub record Low (n : ℕ) (f : ℕ → ℕ) (l : ℕ) : Type 0 where
  pub index : ℕ
  pub below : index < n
  pub value : f index ≡ l
  pub under : (i : ℕ) → i < n → l ≤ f i

-- max_to

pub top_zero : (f : ℕ → ℕ) → max_to 0 f ≡ 0
unfolding max_to
top_zero f = refl

pub top_next : (k : ℕ) (f : ℕ → ℕ) → max_to (k + 1) f ≡ max (max_to k f) (f k)
unfolding max_to
top_next k f = ap (λ n. max_to n f) (add-one k)

pub top_above : {n : ℕ} (f : ℕ → ℕ) (i : ℕ) → i < n → f i ≤ max_to n f
unfolding max_to
top_above {n = zero} f i l = none_below l
top_above {n = suc k} f i l = by_top l (λ e. rw e (omega arith)) (λ l'. omega (arith, top_above f i l'))

pub top_at_most : (n : ℕ) {b : ℕ} {f : ℕ → ℕ} → ((i : ℕ) → i < n → f i ≤ b) → max_to n f ≤ b
unfolding max_to
top_at_most zero h = omega arith
top_at_most (suc k) h = omega (arith, top_at_most k (lower h), h k (le_refl _))

pub top_attained : {n : ℕ} (f : ℕ → ℕ) → 0 < n → Top n f (max_to n f)
unfolding max_to
top_attained {n = zero} f l = none_below l
top_attained {n = suc zero} f l = record { index = 0; below = l; value = omega arith; above = top_above f }
top_attained {n = suc (suc k)} f l =
    let r = top_attained {n = suc k} f (omega arith) in
    by_less (max_to (suc k) f) (f (suc k))
    (λ s. record { index = suc k; below = le_refl _; value = omega arith; above = top_above f })
    (λ s. record { index = r.index; below = omega arith; value = omega (arith, r.value); above = top_above f })

pub top_cong : (n : ℕ) {f g : ℕ → ℕ} → ((i : ℕ) → i < n → f i ≡ g i) → max_to n f ≡ max_to n g
unfolding max_to
top_cong zero h = refl
top_cong (suc k) h = ap₂ max (top_cong k (lower h)) (h k (le_refl _))

-- over two stretches
pub top_add : (k l : ℕ) (f : ℕ → ℕ) → max_to (k + l) f ≡ max (max_to k f) (max_to l (λ i. f (k + i)))
unfolding max_to
top_add k zero f = ap (λ n. max_to n f) (add-zero k) ∙ sym (max-eq_left zero-le)
top_add k (suc l) f = ap (λ n. max_to n f) (add-suc k l) ∙ rw (top_add k l f) (omega arith)

-- nothing is above b where the greatest is not
pub top_leb : (n : ℕ) (f : ℕ → ℕ) (b : ℕ) → all_below n (λ i. leb (f i) b) ≡ leb (max_to n f) b
top_leb n f b =
    bool_eq (λ e. le-leb (max_to n f) b (top_at_most n (λ i l. leb-true (f i) b (all_elim n (λ i. leb (f i) b) e i l))))
    (λ e. all_intro n (λ i. leb (f i) b) (λ i l. le-leb (f i) b (le_trans (top_above f i l) (leb-true (max_to n f) b e))))

pub mul-max : (k a b : ℕ) → k * max a b ≡ max (k * a) (k * b)
mul-max k a b =
    by_less a b (λ l. let h = mul-le-mul_left k (le_of_lt l) in rw (max-eq_right (le_of_lt l)) (sym (max-eq_right h)))
    (λ l. let h = mul-le-mul_left k l in rw (max-eq_left l) (sym (max-eq_left h)))

pub top_scale : (n k : ℕ) (f : ℕ → ℕ) → k * max_to n f ≡ max_to n (λ i. k * f i)
unfolding max_to
top_scale zero k f = mul-zero k
top_scale (suc j) k f = mul-max k (max_to j f) (f j) ∙ ap (λ v. max v (k * f j)) (top_scale j k f)

-- max_where

pub peak_zero : (t : ℕ → Bool) (f : ℕ → ℕ) → max_where 0 t f ≡ 0
unfolding max_where max_to
peak_zero t f = refl

pub peak_next : (k : ℕ) (t : ℕ → Bool) (f : ℕ → ℕ) → max_where (k + 1) t f ≡ max (max_where k t f) (cond (t k) (f k) 0)
unfolding max_where
peak_next k t f = top_next k (λ i. cond (t i) (f i) 0)

pub peak_miss : (k : ℕ) (t : ℕ → Bool) (f : ℕ → ℕ) → t k ≡ false → max_where (k + 1) t f ≡ max_where k t f
peak_miss k t f h = rw (peak_next, h) (omega arith)

-- a passing value that is not greater
pub peak_keep : (k : ℕ) (t : ℕ → Bool) (f : ℕ → ℕ) → (t k ≡ true → f k ≤ max_where k t f) → max_where (k + 1) t f ≡ max_where k t f
peak_keep k t f l = rw peak_next (omega (arith, cond-le (t k) {x = f k} {y = 0} {z = max_where k t f} l (λ _. omega arith)))

pub peak_raise : (k : ℕ) (t : ℕ → Bool) (f : ℕ → ℕ) → t k ≡ true → max_where k t f ≤ f k → max_where (k + 1) t f ≡ f k
peak_raise k t f h l = rw (peak_next, h) (max-eq_right l)

pub peak_above : {n : ℕ} (t : ℕ → Bool) (f : ℕ → ℕ) (i : ℕ) → i < n → t i ≡ true → f i ≤ max_where n t f
unfolding max_where
peak_above t f i l p = rw p at (top_above (λ i. cond (t i) (f i) 0) i l)

pub peak_at_most : (n : ℕ) (t : ℕ → Bool) {b : ℕ} {f : ℕ → ℕ} → ((i : ℕ) → i < n → t i ≡ true → f i ≤ b) → max_where n t f ≤ b
unfolding max_where
peak_at_most n t h = top_at_most n (λ i l. cond-le (t i) (h i l) (λ _. omega arith))

-- something passes: one that passes attains it
pub peak_attained : {n : ℕ} (t : ℕ → Bool) (f : ℕ → ℕ) (k : ℕ) → k < n → t k ≡ true → Peak n t f (max_where n t f)
unfolding max_where
peak_attained {n} t f k l p =
    let r = top_attained {n = n} (λ i. cond (t i) (f i) 0) (omega arith) in
    let q = r.value in
    by_test (t r.index)
    (λ h. record { index = r.index; below = r.below; passes = h; value = rw h at q; above = peak_above t f })
    (λ h. let z : 0 ≡ max_to n (λ i. cond (t i) (f i) 0) = rw h at q in
    let b : f k ≤ max_to n (λ i. cond (t i) (f i) 0) = peak_above t f k l p in
    record { index = k; below = l; passes = p; value = omega arith; above = peak_above t f })

pub peak_cong : (n : ℕ) {t u : ℕ → Bool} {f g : ℕ → ℕ} → ((i : ℕ) → i < n → t i ≡ u i) → ((i : ℕ) → i < n → u i ≡ true → f i ≡ g i) → max_where n t f ≡ max_where n u g
unfolding max_where
peak_cong n h e = top_cong n (λ i l. cond_cong (h i l) (e i l) (λ _. refl))

pub peak_scale : (n k : ℕ) (t : ℕ → Bool) (f : ℕ → ℕ) → k * max_where n t f ≡ max_where n t (λ i. k * f i)
unfolding max_where
peak_scale n k t f = top_scale n k (λ i. cond (t i) (f i) 0) ∙ top_cong n (λ i l. cond_scale k (t i) (f i))

-- min_to

pub low_one : (f : ℕ → ℕ) → min_to 1 f ≡ f 0
unfolding min_to
low_one f = refl

pub low_next : {k : ℕ} (f : ℕ → ℕ) → 0 < k → min_to (k + 1) f ≡ min (min_to k f) (f k)
unfolding min_to
low_next {k = zero} f l = none_below l
low_next {k = suc k} f l = ap (λ n. min_to n f) (add-one (suc k))

pub low_under : {n : ℕ} (f : ℕ → ℕ) (i : ℕ) → i < n → min_to n f ≤ f i
unfolding min_to
low_under {n = zero} f i l = none_below l
low_under {n = suc zero} f i l = let e : i ≡ 0 = omega arith in rw e (le_refl _)
low_under {n = suc (suc k)} f i l = by_top l (λ e. rw e (omega arith)) (λ l'. omega (arith, low_under f i l'))

pub low_attained : {n : ℕ} (f : ℕ → ℕ) → 0 < n → Low n f (min_to n f)
unfolding min_to
low_attained {n = zero} f l = none_below l
low_attained {n = suc zero} f l = record { index = 0; below = l; value = refl; under = low_under f }
low_attained {n = suc (suc k)} f l =
    let r = low_attained {n = suc k} f (omega arith) in
    by_less (f (suc k)) (min_to (suc k) f)
    (λ s. record { index = suc k; below = le_refl _; value = omega arith; under = low_under f })
    (λ s. record { index = r.index; below = omega arith; value = omega (arith, r.value); under = low_under f })

pub low_cong : (n : ℕ) {f g : ℕ → ℕ} → ((i : ℕ) → i < n → f i ≡ g i) → min_to n f ≡ min_to n g
unfolding min_to
low_cong zero h = refl
low_cong (suc zero) h = h 0 (le_refl _)
low_cong (suc (suc k)) h = ap₂ min (low_cong (suc k) (lower h)) (h (suc k) (le_refl _))
