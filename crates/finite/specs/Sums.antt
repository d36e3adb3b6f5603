-- Sums, maxima and minima over the numbers below a bound.
use Rattle.std.specs.Prelude.{ℕ, zero, suc, ◌+◌, min, max, Bool, cond}

-- f 0 + .. + f (n - 1)
unfoldable pub sum_to : ℕ → (ℕ → ℕ) → ℕ
sum_to zero f = 0
sum_to (suc k) f = sum_to k f + f k

-- the greatest of f 0 .. f (n - 1); 0 where n is 0
unfoldable pub max_to : ℕ → (ℕ → ℕ) → ℕ
max_to zero f = 0
max_to (suc k) f = max (max_to k f) (f k)

-- the least of f 0 .. f (n - 1); 0 where n is 0
unfoldable pub min_to : ℕ → (ℕ → ℕ) → ℕ
min_to zero f = 0
min_to (suc zero) f = f 0
min_to (suc (suc k)) f = min (min_to (suc k) f) (f (suc k))

-- the sum of f over those below n that pass the test
unfoldable pub sum_where : ℕ → (ℕ → Bool) → (ℕ → ℕ) → ℕ
sum_where n t f = sum_to n (λ c. cond (t c) (f c) 0)

-- the greatest f among those below n that pass the test; 0 where none does
unfoldable pub max_where : ℕ → (ℕ → Bool) → (ℕ → ℕ) → ℕ
max_where n t f = max_to n (λ c. cond (t c) (f c) 0)

-- how many below n pass the test
unfoldable pub count_to : ℕ → (ℕ → Bool) → ℕ
count_to n t = sum_to n (λ c. cond (t c) 1 0)
