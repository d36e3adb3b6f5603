-- Laws of the bits of a word shifted right, and of two bytes as one word.
-- Assumes nothing.
use Prim.Native.Nat.{ℕ, ◌+◌, ◌*◌, ◌-◌, ◌/◌, ◌%◌, ◌^◌, ◌≤◌, ◌<◌}
use mathlib.Core.Path.{◌≡◌, sym, ap, ◌∙◌}
use native.Mathlib.Omega.{arith}
use lib.Pow.{shr-shr}
use Rattle.finite.specs.Bits.{bit}
use Rattle.finite.proofs.Packed.{bit_of_rest}

-- what is shifted right loses its lowest bits
pub bit_shr : (x s i : ℕ) → bit (x / 2 ^ s) i ≡ bit x (s + i)
unfolding bit
bit_shr x s i = rw (shr-shr x s i)

-- two bytes, high byte first: a byte of them begins s bits before the low one
module _ (high low s j : ℕ) (l : low < 256) (h : j < 8) where
  byte_bit : s < 8 → bit ((256 * high + low) / 2 ^ s % 256) (7 - j) ≡ bit (256 * high + low) (s + (7 - j))
  byte_bit k = bit_of_rest {d = 8} ((256 * high + low) / 2 ^ s) (omega arith) ∙ bit_shr (256 * high + low) s (7 - j)

  -- the bits before the low byte are the high one's last
  pub pair_high : s < 8 → j < s → bit ((256 * high + low) / 2 ^ s % 256) (7 - j) ≡ bit high (7 - (8 + j - s))
  pair_high k m =
      let place : s + (7 - j) ≡ 8 + (7 - (8 + j - s)) = omega arith in
      let top : (256 * high + low) / 256 ≡ high = omega arith in
      byte_bit k ∙ ap (bit (256 * high + low)) place ∙ sym (bit_shr (256 * high + low) 8 _) ∙ ap (λ x. bit x (7 - (8 + j - s))) top

  -- and after them come its own
  pub pair_low : s ≤ j → bit ((256 * high + low) / 2 ^ s % 256) (7 - j) ≡ bit low (7 - (j - s))
  pair_low m =
      let place : s + (7 - j) ≡ 7 - (j - s) = omega arith in
      let rest : (256 * high + low) % 256 ≡ low = omega arith in
      byte_bit (omega arith) ∙ ap (bit (256 * high + low)) place ∙ sym (bit_of_rest {d = 8} (256 * high + low) (omega arith)) ∙ ap (λ x. bit x (7 - (j - s))) rest
