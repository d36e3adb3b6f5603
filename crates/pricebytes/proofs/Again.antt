-- What is written is read back.
-- Assumes nothing.
use Prim.Native.Nat.{ℕ, zero, suc, ◌+◌, ◌*◌, ◌/◌, ◌%◌, ◌^◌, ◌<◌}
use mathlib.Core.List.{List, [], ◌∷◌, ◌++◌}
use mathlib.Core.Path.{◌≡◌, refl, sym, ap, ◌∙◌}
use native.Mathlib.Nat.{div-div-eq-div-mul, mod-eq_of_lt}
use native.Mathlib.Omega.{arith}
use lib.ListN.{length, get_or, drop}
use lib.Seq.{drop-nil, drop-cons, get_or-drop}
use Rattle.finite.specs.Lists.{word_at}
use Rattle.finite.proofs.Lists.{tab_ext}
use Rattle.pricebytes.specs.PriceBytes.{price_at, prices_in, four_bytes, bytes_of}
use Rattle.pricebytes.proofs.Writing.{bytes-length}

-- a number from its last byte and what stands before it
put_together : {p q r s w : ℕ} (x y z : ℕ) → 256 * q + z ≡ p → 256 * r + y ≡ q → 256 * s + x ≡ r → w ≡ s → 65536 * (256 * w + x) + (256 * y + z) ≡ p
put_together x y z last third second first = omega arith

last_byte : (p : ℕ) → 256 * (p / 256) + p % 256 ≡ p
last_byte p = omega arith

-- a number of 32 bits from its bytes
four_digits : (p : ℕ) → p < 2 ^ 32 → 65536 * (256 * (p / 16777216 % 256) + p / 65536 % 256) + (256 * (p / 256 % 256) + p % 256) ≡ p
four_digits p fits =
    let two : p / 65536 ≡ p / 256 / 256 = sym (div-div-eq-div-mul p 256 256) in
    let three : p / 16777216 ≡ p / 256 / 256 / 256 = sym (div-div-eq-div-mul (p / 256) 256 256 ∙ div-div-eq-div-mul p 256 65536) in
    let top : p / 16777216 % 256 ≡ p / 256 / 256 / 256 = mod-eq_of_lt (below p fits) ∙ three in
    put_together (p / 65536 % 256) (p / 256 % 256) (p % 256) (last_byte p) (last_byte (p / 256)) (rw two (last_byte (p / 256 / 256))) top
  where
    below : (p : ℕ) → p < 2 ^ 32 → p / 16777216 < 256
    below p fits = omega arith

-- the bytes of the later prices are the later bytes
bytes_drop : (c : ℕ) (ps : List ℕ) → drop (4 * c) (bytes_of ps) ≡ bytes_of (drop c ps)
unfolding bytes_of
bytes_drop zero ps = refl
bytes_drop (suc c) [] = drop-nil (4 * suc c)
bytes_drop (suc c) (p ∷ ps) =
    let four : 4 * suc c ≡ suc (suc (suc (suc (4 * c)))) = omega arith in
    rw four (bytes_drop c ps)

module _ (ps : List ℕ) {c : ℕ} (l : c < length ps) where
  byte_of : (i : ℕ) → get_or (bytes_of ps) (4 * c + i) 0 ≡ get_or (four_bytes (get_or ps c 0) ++ bytes_of (drop (suc c) ps)) i 0
  unfolding bytes_of
  byte_of i = sym (get_or-drop (4 * c) (bytes_of ps) i 0) ∙ ap (λ xs. get_or xs i 0) (bytes_drop c ps ∙ ap bytes_of (drop-cons ps c 0 l))

  -- a price of 32 bits is what its bytes say
  pub written_at : get_or ps c 0 < 2 ^ 32 → price_at (bytes_of ps) c ≡ get_or ps c 0
  unfolding price_at word_at
  written_at fits =
      let p = get_or ps c 0 in
      let first : get_or (bytes_of ps) (4 * c) 0 ≡ p / 16777216 % 256 = ap (λ k. get_or (bytes_of ps) k 0) (omega arith) ∙ byte_of 0 in
      let second : get_or (bytes_of ps) (4 * c + 1) 0 ≡ p / 65536 % 256 = byte_of 1 in
      let third : get_or (bytes_of ps) (4 * c + 2) 0 ≡ p / 256 % 256 = byte_of 2 in
      let last : get_or (bytes_of ps) (4 * c + 2 + 1) 0 ≡ p % 256 = ap (λ k. get_or (bytes_of ps) k 0) (omega arith) ∙ byte_of 3 in
      rw (first, second, third, last) (four_digits p fits)

-- so a price list is read back from its bytes
pub read_back : (ps : List ℕ) → ((c : ℕ) → c < length ps → get_or ps c 0 < 2 ^ 32) → prices_in (bytes_of ps) ≡ ps
unfolding prices_in
read_back ps fits =
    let many : length (bytes_of ps) / 4 ≡ length ps = omega (arith, bytes-length ps) in
    rw many (sym (tab_ext (length ps) (price_at (bytes_of ps)) ps refl (λ c l. sym (written_at ps l (fits c l)))))
