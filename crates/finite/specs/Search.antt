-- Tests and searches over the numbers below a bound.
use Rattle.std.specs.Prelude.{ℕ, zero, suc, ◌<◌, Bool, true, false, cond, not, ◌&&◌, ◌||◌, ◌≡◌, ltb, Option, Some, None}

-- some number below n passes
unfoldable pub any_below : ℕ → (ℕ → Bool) → Bool
any_below zero t = false
any_below (suc k) t = any_below k t || t k

-- each number below n passes
unfoldable pub all_below : ℕ → (ℕ → Bool) → Bool
all_below zero t = true
all_below (suc k) t = all_below k t && t k

-- one step of the search: r is the first below k that passes, or k where none does; hit says whether k passes
unfoldable pub first_step : ℕ → Bool → ℕ → ℕ
first_step k hit r = cond (ltb r k) r (cond hit k (suc k))

-- the first number below n that passes; n where none does
unfoldable pub first_below : ℕ → (ℕ → Bool) → ℕ
first_below zero t = 0
first_below (suc k) t = first_step k (t k) (first_below k t)

-- what a search below n answers, which r is the end of: r itself, or nothing where it reached n
unfoldable pub if_below : ℕ → ℕ → Option ℕ
if_below n r = cond (ltb r n) (Some r) None

-- the first number below n that passes t and that no other passing t is better than; n where none passes t
unfoldable pub chosen : ℕ → (ℕ → Bool) → (ℕ → ℕ → Bool) → ℕ
chosen n t better = first_below n (λ i. t i && not (any_below n (λ j. t j && better j i)))

-- some number below n passes
pub record Hit (n : ℕ) (t : ℕ → Bool) : Type 0 where
  pub index : ℕ
  pub below : index < n
  pub passes : t index ≡ true

-- some number below n fails
pub record Miss (n : ℕ) (t : ℕ → Bool) : Type 0 where
  pub index : ℕ
  pub below : index < n
  pub fails : t index ≡ false

-- r is below n, passes, and nothing before it does: what a search establishes when it finds
pub record First (n : ℕ) (t : ℕ → Bool) (r : ℕ) : Type 0 where
  pub below : r < n
  pub passes : t r ≡ true
  pub before : (i : ℕ) → i < r → t i ≡ false
