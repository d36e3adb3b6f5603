-- Laws of text in a lent buffer: nothing, and one text after the other.
-- Assumes nothing.
use Prim.Native.Nat.{ℕ, ◌+◌, ◌^◌, ◌≤◌, ◌<◌}
use mathlib.Core.List.{List, [], ◌∷◌, ◌++◌, append_assoc, append-nil}
use mathlib.Core.Path.{◌≡◌, refl, sym, ap, ◌∙◌}
use native.Mathlib.Numerals.{add-one}
use native.Mathlib.Omega.{arith}
use lib.ListN.{length, get_or, take}
use lib.Seq.{take-suc}
use Rattle.io.specs.Digits.{last_digits, IsDigitCount}
use Rattle.text.specs.Text.{ascii, decimal, field, spaced}
use Rattle.text.specs.Put.{Put, PutNumber, PutField, Listed}
use Rattle.text.proofs.Decimal.{digits_long, decimal_is, digits_few, spaced_next}

pub put_nothing : {out : List ℕ} {at : ℕ} → Put 0 [] out at out at
put_nothing = record { few = omega arith; made = sym (append-nil _) }

pub put_then : {m₁ m₂ at r₁ r₂ : ℕ} {t₁ t₂ out out₁ out₂ : List ℕ} → Put m₁ t₁ out at out₁ r₁ → Put m₂ t₂ out₁ r₁ out₂ r₂ → Put (m₁ + m₂) (t₁ ++ t₂) out at out₂ r₂
put_then {at = at} {t₁ = t₁} {t₂} {out} P Q =
    record {
      few = omega (arith, P.few, Q.few);
      made = Q.made ∙ ap (λ l. l ++ t₂) P.made ∙ append_assoc (take at out) t₁ t₂;
    }

-- room for more than was asked
pub put_more : {m n at r : ℕ} {t out out' : List ℕ} → Put m t out at out' r → m ≤ n → Put n t out at out' r
put_more P l = record { few = omega (arith, P.few); made = P.made }

-- a number of 64 bits, from what `io::decimal` leaves
module _ {n k : ℕ} (ds : List ℕ) (F : IsDigitCount 10 1 n k) (spelt : take k ds ≡ last_digits 10 k n) (fits : n < 2 ^ 64) where
  spelt_long : length (take k ds) ≡ k
  spelt_long = ap length spelt ∙ digits_long k n

  pub number_short : length (take k ds) ≤ 20
  number_short = omega (arith, spelt_long, digits_few F 20 (omega arith) (omega arith))

  pub number_put : {at r : ℕ} {out out' : List ℕ} → Put (length (take k ds)) (take k ds) out at out' r → PutNumber n out at out' r
  number_put P =
      record {
        wide = omega (arith, P.few, number_short);
        put = λ d some l.
            let same : take k ds ≡ decimal n = spelt ∙ sym (decimal_is F) in
            record { few = omega (arith, P.few, spelt_long, digits_few F d some l); made = rw same at P.made };
      }

pub field_put : {n at r₁ r₂ : ℕ} {name out out₁ out₂ : List ℕ} → Put (length name) name out at out₁ r₁ → PutNumber n out₁ r₁ out₂ r₂ → PutField name n out at out₂ r₂
unfolding field
field_put P Q = record { wide = omega (arith, P.few, Q.wide); put = λ d some l. put_then P (Q.put d some l) }

pub any_field : {n at r : ℕ} {name out out' : List ℕ} → n < 2 ^ 64 → PutField name n out at out' r → Put (length name + 20) (field name n) out at out' r
any_field l P = P.put 20 (omega arith) (omega arith)

-- a list of numbers of up to d digits, each after a space, from one to the next
module _ (d : ℕ) (some : 0 < d) (xs : List ℕ) {out : List ℕ} {at : ℕ} where
  pub list_begin : Listed d xs out at out at 0
  unfolding spaced
  list_begin = record { within = omega arith; sized = refl; put = put_more put_nothing (omega arith) }

  module _ {out' : List ℕ} {end i : ℕ} (P : Listed d xs out at out' end i) where
    pub list_next : {out'' : List ℕ} {r : ℕ} → i < length xs → get_or xs i 0 < 10 ^ d → PutField (ascii " ") (get_or xs i 0) out' end out'' r → length out'' ≡ length out' → Listed d xs out at out'' r (i + 1)
    list_next l small Q same =
        let both = put_then P.put (Q.put d some small) in
        let next : take (i + 1) xs ≡ take i xs ++ (get_or xs i 0 ∷ []) = rw add-one (take-suc xs i 0 l) in
        let more : spaced (take (i + 1) xs) ≡ spaced (take i xs) ++ field (ascii " ") (get_or xs i 0) = ap spaced next ∙ spaced_next (take i xs) (get_or xs i 0) in
        record { within = omega arith; sized = same ∙ P.sized; put = rw more (put_more both (omega arith)) }
