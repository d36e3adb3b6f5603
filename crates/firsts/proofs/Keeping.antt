-- Laws of the set of those traits that pass a test, put together trait by trait.
-- Assumes nothing.
use Prim.Native.Nat.{ℕ, ◌-◌, ◌*◌, ◌%◌, ◌^◌, ◌<◌}
use mathlib.Core.Bool.{Bool, true, false, cond, ◌&&◌}
use mathlib.Core.Path.{◌≡◌, refl}
use native.Mathlib.Nat.{lt_of_le_of_lt, zero-mul, zero-mod}
use native.Mathlib.Omega.{arith}
use lib.Bits.{bit_or, or_zero_r}
use Rattle.finite.specs.Bits.{bit, SetOf}
use Rattle.finite.proofs.Bits.{shift_one}
use Rattle.finite.proofs.LowestBit.{Rest, rest_all, rest_next, set_bit_below, passed, kept_none, kept_take, kept_skip, kept_all}
use Rattle.firsts.specs.Traits.{trait_count}
use Rattle.firsts.specs.Bits.{NextBit}

-- of the traits of `word` that are no longer in `rest`, those that pass the test u
pub record Keeping (word rest found : ℕ) (u : ℕ → Bool) : Type 0 where
  pub left : Rest word rest
  pub kept : SetOf trait_count found (λ t. passed word rest t && u t)

pub keeping_none : (word : ℕ) (u : ℕ → Bool) → Keeping word word 0 u
keeping_none word u = record { left = rest_all word; kept = kept_none trait_count word u }

-- the bit that is passed is kept where it passes the test
kept_by : {n w rest found : ℕ} (t : ℕ) (u : ℕ → Bool) (b : Bool) → SetOf n found (λ i. passed w rest i && u i) → Rest w rest → bit rest t ≡ true → t < n → t < 64 → u t ≡ b → SetOf n (bit_or found (cond b 1 0 * 2 ^ t % 2 ^ 64)) (λ i. passed w (rest - 2 ^ t) i && u i)
kept_by t u true s r h l m e = rw (shift_one m) (kept_take t u s r h l e)
kept_by {found = found} t u false s r h l m e = rw (zero-mul (2 ^ t), zero-mod (2 ^ 64), or_zero_r found) (kept_skip t u s r h e)

module _ {word rest found k left : ℕ} {u : ℕ → Bool} (few : word < 2 ^ trait_count) (s : Keeping word rest found u) (g : NextBit rest k left) where
  pub keeping_below : k < trait_count
  keeping_below = set_bit_below rest k g.lowest.passes (lt_of_le_of_lt s.left.small few)

  pub keeping_next : Keeping word left (bit_or found (cond (u k) 1 0 * 2 ^ k % 2 ^ 64)) u
  keeping_next =
      let dropped : left ≡ rest - 2 ^ k = omega (arith, g.dropped) in
      rw dropped record {
        left = rest_next k s.left g.lowest.passes;
        kept = kept_by k u (u k) s.kept s.left g.lowest.passes keeping_below g.lowest.below refl;
      }

pub keeping_all : {word found : ℕ} {u : ℕ → Bool} → Keeping word 0 found u → SetOf trait_count found (λ t. bit word t && u t)
keeping_all {word} {u = u} s = kept_all word u s.kept
