-- Tests packed as the bits of bytes: eight to a byte, the first of them highest.
use Rattle.std.specs.Prelude.{ℕ, zero, suc, ◌+◌, ◌*◌, ◌-◌, ◌/◌, ◌%◌, Bool, cond, ◌&&◌, List, ltb, get_or}
use Rattle.finite.specs.Bits.{bit}
use Rattle.finite.specs.Lists.{tabulate}

-- bit c of some bytes, counted from the high bit of the first
unfoldable pub bit_at : List ℕ → ℕ → Bool
bit_at xs c = bit (get_or xs (c / 8) 0) (7 - c % 8)

-- as few bytes as hold m bits
abbrev pub bytes_for : ℕ → ℕ
bytes_for m = (m + 7) / 8

-- the first k of some bits as one number, the first of them highest
unfoldable pub pack_bits : ℕ → (ℕ → Bool) → ℕ
pack_bits zero t = 0
pack_bits (suc k) t = pack_bits k t * 2 + cond (t k) 1 0

-- byte k of the first m of some bits: the bits after them are 0
unfoldable pub packed_byte : ℕ → (ℕ → Bool) → ℕ → ℕ
packed_byte m t k = pack_bits 8 (λ j. ltb (8 * k + j) m && t (8 * k + j))

-- and all of their bytes
unfoldable pub packed : ℕ → (ℕ → Bool) → List ℕ
packed m t = tabulate (bytes_for m) (packed_byte m t)
