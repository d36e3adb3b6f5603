-- Sets of numbers below a bound as the bits of a word.
use Rattle.std.specs.Prelude.{ℕ, ◌/◌, ◌%◌, ◌^◌, ◌<◌, Bool, ◌≡◌, eqb}

-- bit i of the word w is set
unfoldable pub bit : ℕ → ℕ → Bool
bit w i = eqb (w / 2 ^ i % 2) 1

-- the word w holds just the numbers below n that pass the test
pub record SetOf (n w : ℕ) (t : ℕ → Bool) : Type 0 where
  pub below : w < 2 ^ n
  pub member : (i : ℕ) → i < n → bit w i ≡ t i
