-- Laws of sums over the numbers below a bound that pass a test.
-- Assumes nothing.
use Prim.Native.Nat.{ℕ, ◌+◌, ◌*◌, ◌≤◌, ◌<◌, ◌∣◌}
use mathlib.Core.Bool.{Bool, true, false, cond, not, ◌&&◌}
use mathlib.Core.Path.{◌≡◌, refl, sym, ◌∙◌}
use native.Mathlib.Nat.{le_refl, add-zero, dvd-zero}
use native.Mathlib.Omega.{arith}
use lib.Dec.{eqb}
use borrow.Author.Tests.{ne_eqb}
use Rattle.finite.specs.Sums.{sum_to, sum_where, max_where}
use Rattle.finite.proofs.Tests.{by_test, by_cond, clash, cond_true, cond_false, cond_cong, cond_mono, cond_scale, cond_same, and_no_right, and_keep, not_off, eqb_same}
use Rattle.finite.proofs.Sums.{sum_next, sum_cong, sum_mono, sum_strict, sum_add, sum_scale, sum_multiple, sum_none, sum_change, sum_single, sum_point, sum_less, sum_split}
use Rattle.finite.proofs.Extremes.{peak_at_most}

pub where_zero : (t : ℕ → Bool) (f : ℕ → ℕ) → sum_where 0 t f ≡ 0
unfolding sum_where sum_to
where_zero t f = refl

pub where_next : (k : ℕ) (t : ℕ → Bool) (f : ℕ → ℕ) → sum_where (k + 1) t f ≡ sum_where k t f + cond (t k) (f k) 0
unfolding sum_where
where_next k t f = sum_next k (λ c. cond (t c) (f c) 0)

pub where_hit : (k : ℕ) (t : ℕ → Bool) (f : ℕ → ℕ) → t k ≡ true → sum_where (k + 1) t f ≡ sum_where k t f + f k
where_hit k t f h = rw (where_next, h)

pub where_miss : (k : ℕ) (t : ℕ → Bool) (f : ℕ → ℕ) → t k ≡ false → sum_where (k + 1) t f ≡ sum_where k t f
where_miss k t f h = rw (where_next, h, add-zero)

-- equal tests, and values equal where they pass
pub where_cong : (n : ℕ) {t u : ℕ → Bool} {f g : ℕ → ℕ} → ((c : ℕ) → c < n → t c ≡ u c) → ((c : ℕ) → c < n → u c ≡ true → f c ≡ g c) → sum_where n t f ≡ sum_where n u g
unfolding sum_where
where_cong n h e = sum_cong n (λ c l. cond_cong (h c l) (e c l) (λ _. refl))

pub where_test : (n : ℕ) {t u : ℕ → Bool} (f : ℕ → ℕ) → ((c : ℕ) → c < n → t c ≡ u c) → sum_where n t f ≡ sum_where n u f
where_test n f h = where_cong n h (λ c l p. refl)

pub where_value : (n : ℕ) (t : ℕ → Bool) {f g : ℕ → ℕ} → ((c : ℕ) → c < n → t c ≡ true → f c ≡ g c) → sum_where n t f ≡ sum_where n t g
where_value n t e = where_cong n (λ c l. refl) e

-- a wider test, and values at least as great where the first passes
where_mono : (n : ℕ) (t u : ℕ → Bool) {f g : ℕ → ℕ} → ((c : ℕ) → c < n → t c ≡ true → u c ≡ true) → ((c : ℕ) → c < n → t c ≡ true → f c ≤ g c) → sum_where n t f ≤ sum_where n u g
unfolding sum_where
where_mono n t u h e = sum_mono n (λ c l. cond_mono (t c) (u c) (h c l) (e c l))

-- the same test: values at least as great
pub where_le : (n : ℕ) (t : ℕ → Bool) {f g : ℕ → ℕ} → ((c : ℕ) → c < n → t c ≡ true → f c ≤ g c) → sum_where n t f ≤ sum_where n t g
where_le n t e = where_mono n t t (λ c l p. p) e

-- the same values: a wider test
pub where_wider : (n : ℕ) (t u : ℕ → Bool) (f : ℕ → ℕ) → ((c : ℕ) → c < n → t c ≡ true → u c ≡ true) → sum_where n t f ≤ sum_where n u f
where_wider n t u f h = where_mono n t u h (λ c l p. le_refl _)

-- one greater value at a passing point
pub where_strict : {n : ℕ} (t : ℕ → Bool) {f g : ℕ → ℕ} → ((c : ℕ) → c < n → t c ≡ true → f c ≤ g c) → (k : ℕ) → k < n → t k ≡ true → f k < g k → sum_where n t f < sum_where n t g
unfolding sum_where
where_strict t e k l p s = sum_strict (λ c m. cond_mono (t c) (t c) (λ q. q) (e c m)) k l (rw p s)

-- one more point, of a positive value
pub where_strict_test : {n : ℕ} (t u : ℕ → Bool) (f : ℕ → ℕ) → ((c : ℕ) → c < n → t c ≡ true → u c ≡ true) → (k : ℕ) → k < n → t k ≡ false → u k ≡ true → 0 < f k → sum_where n t f < sum_where n u f
unfolding sum_where
where_strict_test t u f h k l p q s = sum_strict (λ c m. cond_mono (t c) (u c) (h c m) (λ _. le_refl _)) k l (rw (p, q) s)

pub where_point : {n : ℕ} (t : ℕ → Bool) (f : ℕ → ℕ) (k : ℕ) → k < n → t k ≡ true → f k ≤ sum_where n t f
unfolding sum_where
where_point t f k l p = rw p at (sum_point (λ c. cond (t c) (f c) 0) k l)

-- the greatest is one of those added up
pub peak_within : (n : ℕ) (t : ℕ → Bool) (f : ℕ → ℕ) → max_where n t f ≤ sum_where n t f
peak_within n t f = peak_at_most n t (where_point t f)

-- no value counts where the test passes
pub where_zeros : (n : ℕ) (t : ℕ → Bool) {f : ℕ → ℕ} → ((c : ℕ) → c < n → t c ≡ true → f c ≡ 0) → sum_where n t f ≡ 0
unfolding sum_where
where_zeros n t h = sum_none n (λ c l. cond_cong refl (h c l) (λ _. refl) ∙ cond_same (t c) 0)

pub where_none : (n : ℕ) (t : ℕ → Bool) (f : ℕ → ℕ) → ((c : ℕ) → c < n → t c ≡ false) → sum_where n t f ≡ 0
where_none n t f h = where_zeros n t (λ c l p. absurd (clash p (h c l)))

pub where_all : (n : ℕ) (t : ℕ → Bool) (f : ℕ → ℕ) → ((c : ℕ) → c < n → t c ≡ true) → sum_where n t f ≡ sum_to n f
unfolding sum_where
where_all n t f h = sum_cong n (λ c l. cond_true (f c) 0 (h c l))

pub where_le_sum : (n : ℕ) (t : ℕ → Bool) (f : ℕ → ℕ) → sum_where n t f ≤ sum_to n f
unfolding sum_where
where_le_sum n t f = sum_mono n (λ c l. cond_mono (t c) true (λ _. refl) (λ _. le_refl _))

pub where_scale : (n k : ℕ) (t : ℕ → Bool) (f : ℕ → ℕ) → sum_where n t (λ c. k * f c) ≡ k * sum_where n t f
unfolding sum_where
where_scale n k t f = sum_cong n (λ c l. sym (cond_scale k (t c) (f c))) ∙ sum_scale n k (λ c. cond (t c) (f c) 0)

pub where_scale_eq : (n k l : ℕ) (t : ℕ → Bool) (f g : ℕ → ℕ) → ((c : ℕ) → c < n → t c ≡ true → k * f c ≡ l * g c) → k * sum_where n t f ≡ l * sum_where n t g
where_scale_eq n k l t f g h = sym (where_scale n k t f) ∙ where_value n t h ∙ where_scale n l t g

pub where_scale_le : (n k l : ℕ) (t : ℕ → Bool) (f g : ℕ → ℕ) → ((c : ℕ) → c < n → t c ≡ true → k * f c ≤ l * g c) → k * sum_where n t f ≤ l * sum_where n t g
where_scale_le n k l t f g h = rw (← where_scale n k t f, ← where_scale n l t g) (where_le n t h)

pub where_multiple : (n k : ℕ) (t : ℕ → Bool) {f : ℕ → ℕ} → ((c : ℕ) → k ∣ f c) → k ∣ sum_where n t f
unfolding sum_where
where_multiple n k t {f} h = sum_multiple n k (λ c. by_cond (λ v. k ∣ v) (t c) (f c) 0 (λ _. h c) (λ _. dvd-zero k))

-- a second test splits the sum
pub where_split : (n : ℕ) (t u : ℕ → Bool) (f : ℕ → ℕ) → sum_where n t f ≡ sum_where n (λ c. t c && u c) f + sum_where n (λ c. t c && not (u c)) f
unfolding sum_where
where_split n t u f =
    sum_cong n (λ c l. point (t c) (u c) (f c))
    ∙ sum_add n (λ c. cond (t c && u c) (f c) 0) (λ c. cond (t c && not (u c)) (f c) 0)
  where
    point : (a b : Bool) (x : ℕ) → cond a x 0 ≡ cond (a && b) x 0 + cond (a && not b) x 0
    point true true x = omega arith
    point true false x = omega arith
    point false b x = refl

-- those that pass and those that fail
pub where_not : (n : ℕ) (t : ℕ → Bool) (f : ℕ → ℕ) → sum_to n f ≡ sum_where n t f + sum_where n (λ c. not (t c)) f
where_not n t f = sym (where_all n (λ c. true) f (λ c l. refl)) ∙ where_split n (λ c. true) t f

-- cut in two at n
pub where_cut : (n m : ℕ) (t : ℕ → Bool) (f : ℕ → ℕ) → sum_where (n + m) t f ≡ sum_where n t f + sum_where m (λ c. t (n + c)) (λ c. f (n + c))
unfolding sum_where
where_cut n m t f = sum_split n m (λ c. cond (t c) (f c) 0)

-- tests that differ at one point
pub where_change : {n : ℕ} (t u : ℕ → Bool) (f : ℕ → ℕ) (k : ℕ) → k < n → t k ≡ false → u k ≡ true → ((c : ℕ) → c < n → (c ≡ k → ⊥) → t c ≡ u c) → sum_where n u f ≡ sum_where n t f + f k
unfolding sum_where
where_change {n} t u f k l p q h =
    let e = sum_change {n = n} {f = λ c. cond (u c) (f c) 0} {g = λ c. cond (t c) (f c) 0} k l (λ c m ne. rw (h c m ne)) in
    let e' : sum_to n (λ c. cond (u c) (f c) 0) + 0 ≡ sum_to n (λ c. cond (t c) (f c) 0) + f k = rw (p, q) at e in
    omega arith

-- one point taken off
pub where_off : {n : ℕ} (t : ℕ → Bool) (f : ℕ → ℕ) (k : ℕ) → k < n → t k ≡ true → sum_where n (λ c. t c && not (eqb c k)) f + f k ≡ sum_where n t f
where_off t f k l p =
    sym (where_change (λ c. t c && not (eqb c k)) t f k l (and_no_right (t k) (not_off (eqb_same k))) p (λ c m ne. and_keep (t c) (ne_eqb c k ne)))

-- only one point passes
pub where_single : {n : ℕ} (t : ℕ → Bool) (f : ℕ → ℕ) (k : ℕ) → k < n → t k ≡ true → ((c : ℕ) → c < n → (c ≡ k → ⊥) → t c ≡ false) → sum_where n t f ≡ f k
unfolding sum_where
where_single t f k l p h =
    sum_single (λ c. cond (t c) (f c) 0) k l (λ c m ne. cond_false (f c) 0 (h c m ne)) ∙ cond_true (f k) 0 p

-- the sum at one number
pub where_at : {n : ℕ} (f : ℕ → ℕ) (k : ℕ) → k < n → sum_where n (λ c. eqb k c) f ≡ f k
where_at f k l = where_single (λ c. eqb k c) f k l (eqb_same k) (λ c m ne. ne_eqb k c (λ e. ne (sym e)))

-- some passing number below n where f is less than g
pub record LessWhere (n : ℕ) (t : ℕ → Bool) (f g : ℕ → ℕ) : Type 0 where
  pub index : ℕ
  pub below : index < n
  pub passes : t index ≡ true
  pub less : f index < g index

-- a lesser sum has a lesser passing point
pub where_less : (n : ℕ) (t : ℕ → Bool) (f g : ℕ → ℕ) → sum_where n t f < sum_where n t g → LessWhere n t f g
unfolding sum_where
where_less n t f g h =
    let r = sum_less n (λ c. cond (t c) (f c) 0) (λ c. cond (t c) (g c) 0) h in
    let s = r.less in
    let i = r.index in
    by_test (t i)
    (λ p. record { index = i; below = r.below; passes = p; less = rw p at s })
    (λ p. absurd (let z : 0 < 0 = rw p at s in omega arith))

pub where_positive : (n : ℕ) (t : ℕ → Bool) (f : ℕ → ℕ) → 0 < sum_where n t f → LessWhere n t (λ c. 0) f
where_positive n t f h = where_less n t (λ c. 0) f (rw (where_zeros n t {f = λ c. 0} (λ c l p. refl)) h)

-- a sum of 0 has passing points of 0
pub where_empty : (n : ℕ) (t : ℕ → Bool) (f : ℕ → ℕ) → sum_where n t f ≡ 0 → (c : ℕ) → c < n → t c ≡ true → f c ≡ 0
where_empty n t f e c l p = omega (arith, where_point t f c l p)
