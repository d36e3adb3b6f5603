-- Numbers in decimal: the digits that `io::decimal` writes, and what the standard library writes, are the text of the number.
-- Assumes nothing.
use Prim.Native.Nat.{ℕ, zero, suc, ◌+◌, ◌*◌, ◌-◌, ◌/◌, ◌%◌, ◌^◌, ◌≤◌, ◌<◌}
use mathlib.Core.List.{List, [], ◌∷◌, ◌++◌, append_assoc, append-nil}
use mathlib.Core.Path.{◌≡◌, refl}
use native.Mathlib.Nat.{pow-suc, pow-le-pow_right, one-le-pow}
use native.Mathlib.Numerals.{add-one}
use native.Mathlib.Omega.{arith}
use lib.ListN.{length, length-append}
use borrow.Author.Tests.{lt-ltb, le-ltb}
use Rattle.std.specs.Fmt as std
use Rattle.std.proofs.lemmas.Fmt.{AppendsLastDigit, decimal_from_appends, length-decimal-le_succ}
use Rattle.io.specs.Digits.{hex_digit_ascii, last_digits, IsDigitCount}
use Rattle.finite.proofs.Below.{by_less}
use Rattle.text.specs.Text.{ascii, digits_in, decimal, field, spaced}

pub digits_long : (k n : ℕ) → length (last_digits 10 k n) ≡ k
digits_long zero n = refl
digits_long (suc k) n = simp length-append (omega (arith, digits_long k (n / 10)))

glyph_of : (d : ℕ) → d < 10 → hex_digit_ascii d ≡ 48 + d
glyph_of d l = rw (lt-ltb d 10 l)

-- the fewest digits of a number with two or more: those of its tenth, and one more
fewest_tenth : (k n : ℕ) → 10 ≤ n → IsDigitCount 10 1 n (suc k) → IsDigitCount 10 1 (n / 10) k
fewest_tenth zero n l F = absurd (omega (arith, F.1))
fewest_tenth (suc k) n l F =
    let top : n < 10 ^ suc k * 10 = rw pow-suc at F.1 in
    let back : suc (suc k) - 1 ≡ suc k = omega arith in
    let low : 10 ^ k * 10 ≤ n = rw (back, pow-suc) at (F.2 (omega arith)) in
    let tenth : suc k - 1 ≡ k = omega arith in
    (omega arith, omega arith, λ m. rw tenth (omega arith))

-- a number below 10 has one
fewest_one : (k n : ℕ) → n < 10 → IsDigitCount 10 1 n (suc k) → k ≡ 0
fewest_one zero n l F = refl
fewest_one (suc k) n l F =
    let back : suc (suc k) - 1 ≡ suc k = omega arith in
    let low : 10 ^ k * 10 ≤ n = rw (back, pow-suc) at (F.2 (omega arith)) in
    absurd (omega (arith, one-le-pow k 10 (omega arith)))

digits_are : (f k n : ℕ) → IsDigitCount 10 1 n k → k ≤ f → digits_in f n ≡ last_digits 10 k n
unfolding digits_in
digits_are f zero n F l = absurd (omega (arith, F.0))
digits_are zero (suc k) n F l = absurd (omega arith)
digits_are (suc f) (suc k) n F l =
    let last = glyph_of (n % 10) (omega arith) in
    by_less n 10
    (λ m.
    let one = fewest_one k n m F in
    let same : n % 10 ≡ n = omega arith in
    rw (lt-ltb n 10 m, one, last, same))
    (λ m. rw (le-ltb n 10 m, last, digits_are f k (n / 10) (fewest_tenth k n m F) (omega arith)))

below_power : (k : ℕ) → k < 10 ^ k
below_power zero = omega arith
below_power (suc k) = omega (arith, below_power k, pow-suc 10 k)

module _ {n k : ℕ} (F : IsDigitCount 10 1 n k) where
  pub decimal_is : decimal n ≡ last_digits 10 k n
  unfolding decimal
  decimal_is =
      digits_are (suc n) k n F
      (by_less 1 k (λ m. omega (arith, F.2 m, below_power (k - 1))) (λ m. omega arith))

  -- no more digits than it has room for
  pub digits_few : (d : ℕ) → 0 < d → n < 10 ^ d → k ≤ d
  digits_few d some l =
      by_less d k
      (λ m.
      let wide : d ≤ k - 1 = omega arith in
      absurd (omega (arith, F.2 (omega arith), pow-le-pow_right {n = 10} (omega arith) wide)))
      (λ m. m)

-- one number more
pub spaced_next : (xs : List ℕ) (x : ℕ) → spaced (xs ++ (x ∷ [])) ≡ spaced xs ++ field (ascii " ") x
unfolding spaced
spaced_next [] x = append-nil _
spaced_next (y ∷ xs) x = rw (spaced_next xs x, append_assoc)

digits_appended : AppendsLastDigit digits_in
unfolding digits_in
digits_appended = record { one = λ k n l. rw (lt-ltb n 10 l); more = λ k n l. rw (le-ltb n 10 l) }

-- what the standard library writes
pub decimal_shown : (n : ℕ) → n < 2 ^ 64 → decimal n ≡ std.decimal n
unfolding decimal
decimal_shown n l = decimal_from_appends digits_in digits_appended (suc n) n l (rw add-one at (length-decimal-le_succ n l))
