-- The bits of a word, gone through one by one.
use Rattle.std.specs.Prelude.{ℕ, ◌+◌, ◌^◌, ◌≡◌}
use Rattle.finite.specs.Bits.{bit}
use Rattle.finite.specs.Search.{First}

-- t is the lowest set bit of a word of 64 bits; left is the word without it
pub record NextBit (word t left : ℕ) : Type 0 where
  pub lowest : First 64 (λ i. bit word i) t
  pub dropped : word ≡ left + 2 ^ t
