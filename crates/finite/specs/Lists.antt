-- Lists made by index, and all lists of a length over the numbers from 1 to n.
use Rattle.std.specs.Prelude.{ℕ, zero, suc, ◌*◌, ◌+◌, ◌≤◌, ◌<◌, Bool, cond, List, [], ◌∷◌, ◌++◌, ◌≡◌, length, get_or}
use Rattle.finite.specs.Sums.{min_to}
use Rattle.finite.specs.Search.{any_below}

-- f 0, .., f (n - 1)
unfoldable pub tabulate : ℕ → (ℕ → ℕ) → List ℕ
tabulate zero f = []
tabulate (suc k) f = tabulate k f ++ (f k ∷ [])

-- the numbers below n that pass, in their order
unfoldable pub passing : ℕ → (ℕ → Bool) → List ℕ
passing zero t = []
passing (suc k) t = passing k t ++ cond (t k) (k ∷ []) []

-- xs is f 0, .., f (n - 1), said entry by entry
pub record Table (n : ℕ) (f : ℕ → ℕ) (xs : List ℕ) : Type 0 where
  pub size : length xs ≡ n
  pub entry : (i : ℕ) → i < n → get_or xs i 0 ≡ f i

-- y has m entries, from 1 to n
pub record Picks (n m : ℕ) (y : List ℕ) : Type 0 where
  pub size : length y ≡ m
  pub positive : (c : ℕ) → c < m → 0 < get_or y c 0
  pub bounded : (c : ℕ) → c < m → get_or y c 0 ≤ n

-- some list of m numbers from 1 to n passes
unfoldable pub some_list : ℕ → ℕ → (List ℕ → Bool) → Bool
some_list n zero t = t []
some_list n (suc m) t = any_below n (λ i. some_list n m (λ y. t (suc i ∷ y)))

-- the least f over all lists of m numbers from 1 to n
unfoldable pub least_list : ℕ → ℕ → (List ℕ → ℕ) → ℕ
least_list n zero f = f []
least_list n (suc m) f = min_to n (λ i. least_list n m (λ y. f (suc i ∷ y)))

-- the two bytes at i, high byte first, as a number
unfoldable pub word_at : List ℕ → ℕ → ℕ
word_at xs i = 256 * get_or xs i 0 + get_or xs (i + 1) 0
