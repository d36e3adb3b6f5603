-- Laws of the number of those below a bound that pass a test.
-- Assumes nothing.
use Prim.Native.Nat.{ℕ, ◌+◌, ◌*◌, ◌-◌, ◌≤◌, ◌<◌}
use mathlib.Core.Bool.{Bool, true, false, cond, not, ◌&&◌}
use mathlib.Core.Path.{◌≡◌, sym, ◌∙◌}
use native.Mathlib.Nat.{le_refl, mul-one, mul_comm}
use native.Mathlib.Omega.{arith}
use borrow.Author.Tests.{not-false}
use Rattle.finite.specs.Sums.{sum_to, sum_where, count_to}
use Rattle.finite.proofs.Tests.{not_yes}
use Rattle.finite.proofs.Sums.{sum_const}
use Rattle.finite.proofs.Where.{where_zero, where_next, where_hit, where_miss, where_split, where_cut, where_value, where_wider, where_strict_test, where_le_sum, where_none, where_not, where_change, where_point, where_scale}

pub ones : (n : ℕ) → sum_to n (λ c. 1) ≡ n
ones n = sum_const n 1 ∙ mul-one n

pub count_zero : (t : ℕ → Bool) → count_to 0 t ≡ 0
unfolding count_to sum_where
count_zero t = where_zero t (λ c. 1)

pub count_next : (k : ℕ) (t : ℕ → Bool) → count_to (k + 1) t ≡ count_to k t + cond (t k) 1 0
unfolding count_to sum_where
count_next k t = where_next k t (λ c. 1)

pub count_hit : (k : ℕ) (t : ℕ → Bool) → t k ≡ true → count_to (k + 1) t ≡ count_to k t + 1
unfolding count_to sum_where
count_hit k t h = where_hit k t (λ c. 1) h

pub count_miss : (k : ℕ) (t : ℕ → Bool) → t k ≡ false → count_to (k + 1) t ≡ count_to k t
unfolding count_to sum_where
count_miss k t h = where_miss k t (λ c. 1) h

pub count_le : (n : ℕ) (t : ℕ → Bool) → count_to n t ≤ n
unfolding count_to sum_where
count_le n t = rw (ones n) at (where_le_sum n t (λ c. 1))

pub count_mono : (n : ℕ) (t u : ℕ → Bool) → ((c : ℕ) → c < n → t c ≡ true → u c ≡ true) → count_to n t ≤ count_to n u
unfolding count_to sum_where
count_mono n t u h = where_wider n t u (λ c. 1) h

-- a wider test with one more point
pub count_strict : {n : ℕ} (t u : ℕ → Bool) → ((c : ℕ) → c < n → t c ≡ true → u c ≡ true) → (k : ℕ) → k < n → t k ≡ false → u k ≡ true → count_to n t < count_to n u
unfolding count_to sum_where
count_strict t u h k l p q = where_strict_test t u (λ c. 1) h k l p q (le_refl 1)

pub count_none : (n : ℕ) (t : ℕ → Bool) → ((c : ℕ) → c < n → t c ≡ false) → count_to n t ≡ 0
unfolding count_to sum_where
count_none n t h = where_none n t (λ c. 1) h

pub count_point : {n : ℕ} (t : ℕ → Bool) (k : ℕ) → k < n → t k ≡ true → 0 < count_to n t
unfolding count_to sum_where
count_point t k l p = where_point t (λ c. 1) k l p

-- a second test splits the count
pub count_split : (n : ℕ) (t u : ℕ → Bool) → count_to n t ≡ count_to n (λ c. t c && u c) + count_to n (λ c. t c && not (u c))
unfolding count_to sum_where
count_split n t u = where_split n t u (λ c. 1)

-- those below k are among those below n
pub count_longer : {k n : ℕ} (t : ℕ → Bool) → k ≤ n → count_to k t ≤ count_to n t
unfolding count_to sum_where
count_longer {k} {n} t l =
    let all : k + (n - k) ≡ n = omega arith in
    let cut = rw all at (where_cut k (n - k) t (λ c. 1)) in
    omega (arith, cut)

-- those that pass and those that fail are all
pub count_not : (n : ℕ) (t : ℕ → Bool) → count_to n t + count_to n (λ c. not (t c)) ≡ n
unfolding count_to sum_where
count_not n t = sym (where_not n t (λ c. 1)) ∙ ones n

-- a count of 0: none passes
pub count_empty : (n : ℕ) (t : ℕ → Bool) → count_to n t ≡ 0 → (c : ℕ) → c < n → t c ≡ false
count_empty n t e c l = not_yes (t c) (λ p. omega (arith, count_point t c l p))

-- a count of all: each passes
pub count_full : (n : ℕ) (t : ℕ → Bool) → count_to n t ≡ n → (c : ℕ) → c < n → t c ≡ true
count_full n t e c l =
    not-false (t c) (count_empty n (λ i. not (t i)) (omega (arith, count_not n t)) c l)

-- tests that differ at one point
pub count_change : {n : ℕ} (t u : ℕ → Bool) (k : ℕ) → k < n → t k ≡ false → u k ≡ true → ((c : ℕ) → c < n → (c ≡ k → ⊥) → t c ≡ u c) → count_to n u ≡ count_to n t + 1
unfolding count_to sum_where
count_change t u k l p q h = where_change t u (λ c. 1) k l p q h

-- sums of one value, and bounds by the count

pub where_const : (n b : ℕ) (t : ℕ → Bool) → sum_where n t (λ c. b) ≡ count_to n t * b
unfolding count_to sum_where
where_const n b t =
    where_value n t {f = λ c. b} {g = λ c. b * 1} (λ c l p. sym (mul-one b)) ∙ where_scale n b t (λ c. 1) ∙ mul_comm b _
