-- Laws of bits of a word, and of sets of numbers as words.
-- Assumes nothing.
use Prim.Native.Nat.{ℕ, zero, suc, ◌+◌, ◌-◌, ◌*◌, ◌/◌, ◌%◌, ◌^◌, ◌≤◌, ◌<◌, min, max}
use mathlib.Core.Bool.{Bool, true, false, cond, not, ◌&&◌, ◌||◌, true≢false, false≢true, or-false}
use mathlib.Core.Path.{◌≡◌, refl, sym, ap, ap₂, ◌∙◌}
use native.Mathlib.Nat.{le_refl, lt_of_le_of_lt, lt_of_lt_of_le, div-eq_of_lt, div_self, zero-div, div-one, div-div-eq-div-mul, mul_comm, mod-lt, mod-eq_of_lt, mul-add-mod_self_right, mul-mod_left, one-mul, pow-suc, mul-div_cancel}
use native.Mathlib.Numerals.{add-one}
use native.Mathlib.Omega.{arith}
use lib.Bits.{bit_and, bit_or, bit_xor, differ, and_step, or_step, xor_step, and_shr, or_shr, xor_shr, and_le_r, or_lt, xor_lt}
use lib.Pow.{pow_pos, pow_mono, pow-lt, pow-add}
use lib.Dec.{eqb}
use borrow.Author.Tests.{eq-eqb, ne_eqb}
use Rattle.finite.specs.Bits.{bit, SetOf}
use Rattle.finite.specs.Search.{any_below}
use Rattle.finite.proofs.Tests.{not_no, or_right}
use Rattle.finite.proofs.Below.{none_below, by_top, by_less, by_same}
use Rattle.finite.proofs.Search.{any_none, any_none_intro}

-- binary digits

by_digit {ℓ} : {A : Type ℓ} {x : ℕ} → x < 2 → (x ≡ 0 → A) → (x ≡ 1 → A) → A
by_digit {x = x} l none one =
    by_same x 0 none λ h. let e : x ≡ 1 = omega arith in one e

digit_lt : (a : ℕ) → a % 2 < 2
digit_lt a = mod-lt a (omega arith)

and_digit : (x y : ℕ) → x < 2 → y < 2 → eqb (min x y) 1 ≡ (eqb x 1 && eqb y 1)
and_digit x y h l =
    by_digit h
    (λ e. by_digit l (λ f. rw (e, f)) (λ f. rw (e, f)))
    (λ e. by_digit l (λ f. rw (e, f)) (λ f. rw (e, f)))

or_digit : (x y : ℕ) → x < 2 → y < 2 → eqb (max x y) 1 ≡ (eqb x 1 || eqb y 1)
or_digit x y h l =
    by_digit h
    (λ e. by_digit l (λ f. rw (e, f)) (λ f. rw (e, f)))
    (λ e. by_digit l (λ f. rw (e, f)) (λ f. rw (e, f)))

-- the second changes the first
xor_digit : (x y : ℕ) → x < 2 → y < 2 → eqb (differ x y) 1 ≡ cond (eqb y 1) (not (eqb x 1)) (eqb x 1)
xor_digit x y h l =
    by_digit h
    (λ e. by_digit l (λ f. rw (e, f)) (λ f. rw (e, f)))
    (λ e. by_digit l (λ f. rw (e, f)) (λ f. rw (e, f)))

differ_lt : (x y : ℕ) → x < 2 → y < 2 → differ x y < 2
differ_lt x y h l =
    by_digit h
    (λ e. by_digit l (λ f. rw (e, f) (omega arith)) (λ f. rw (e, f) (omega arith)))
    (λ e. by_digit l (λ f. rw (e, f) (omega arith)) (λ f. rw (e, f) (omega arith)))

same_digit : (x y : ℕ) → x < 2 → y < 2 → eqb x 1 ≡ eqb y 1 → x ≡ y
same_digit x y h l q =
    by_digit h
    (λ e. by_digit l (λ f. e ∙ sym f) (λ f. absurd (false≢true (rw (e, f) at q))))
    (λ e. by_digit l (λ f. absurd (true≢false (rw (e, f) at q))) (λ f. e ∙ sym f))

-- the lowest bit of a number in two digits
pub last_digit : (a x : ℕ) → x < 2 → (a * 2 + x) % 2 ≡ x
last_digit a x h = mul-add-mod_self_right a 2 x ∙ mod-eq_of_lt h

-- the bits of words

pub bit-and : (a b i : ℕ) → bit (bit_and a b) i ≡ (bit a i && bit b i)
unfolding bit
bit-and a b i =
    let x = a / 2 ^ i in
    let y = b / 2 ^ i in
    let l : min (x % 2) (y % 2) < 2 = omega (arith, digit_lt x) in
    ap (λ v. eqb (v % 2) 1) (and_shr a b i ∙ and_step x y)
    ∙ ap (λ v. eqb v 1) (last_digit (bit_and (x / 2) (y / 2)) (min (x % 2) (y % 2)) l)
    ∙ and_digit (x % 2) (y % 2) (digit_lt x) (digit_lt y)

pub bit-or : (a b i : ℕ) → bit (bit_or a b) i ≡ (bit a i || bit b i)
unfolding bit
bit-or a b i =
    let x = a / 2 ^ i in
    let y = b / 2 ^ i in
    let l : max (x % 2) (y % 2) < 2 = omega (arith, digit_lt x, digit_lt y) in
    ap (λ v. eqb (v % 2) 1) (or_shr a b i ∙ or_step x y)
    ∙ ap (λ v. eqb v 1) (last_digit (bit_or (x / 2) (y / 2)) (max (x % 2) (y % 2)) l)
    ∙ or_digit (x % 2) (y % 2) (digit_lt x) (digit_lt y)

pub bit_xor_lem : (a b i : ℕ) → bit (bit_xor a b) i ≡ cond (bit b i) (not (bit a i)) (bit a i)
unfolding bit
bit_xor_lem a b i =
    let x = a / 2 ^ i in
    let y = b / 2 ^ i in
    ap (λ v. eqb (v % 2) 1) (xor_shr a b i ∙ xor_step x y)
    ∙ ap (λ v. eqb v 1) (last_digit (bit_xor (x / 2) (y / 2)) (differ (x % 2) (y % 2)) (differ_lt (x % 2) (y % 2) (digit_lt x) (digit_lt y)))
    ∙ xor_digit (x % 2) (y % 2) (digit_lt x) (digit_lt y)

pub bit_zero : (i : ℕ) → bit 0 i ≡ false
unfolding bit
bit_zero i = rw zero-div

-- a word below 2 ^ n has no bit from n on
pub bit-above : {n w i : ℕ} → w < 2 ^ n → n ≤ i → bit w i ≡ false
unfolding bit
bit-above h l = rw (div-eq_of_lt (lt_of_lt_of_le h (pow_mono l)))

-- a higher power of 2 has no bit i
bit_under : (i d : ℕ) → bit (2 ^ (suc d + i)) i ≡ false
unfolding bit
bit_under i d =
    ap (λ v. eqb (v % 2) 1)
    (ap (λ v. v / 2 ^ i) (pow-add 2 (suc d) i) ∙ mul-div_cancel (2 ^ suc d) (pow_pos i) ∙ pow-suc 2 d)
    ∙ ap (λ v. eqb v 1) (mul-mod_left (2 ^ d) 2)

bit_same : (k : ℕ) → bit (2 ^ k) k ≡ true
unfolding bit
bit_same k = rw (div_self (pow_pos k))

pub bit-pow : (k i : ℕ) → bit (2 ^ k) i ≡ eqb i k
bit-pow k i =
    by_same i k
    (λ e. rw e (bit_same k ∙ sym (eq-eqb k k refl)))
    (λ n. by_less i k
    (λ l. let d = k - i - 1 in let e : k ≡ suc d + i = omega arith in rw (ne_eqb i k n) (rw e (bit_under i d)))
    (λ l. let m : k < i = omega arith in bit-above (pow-lt m) (le_refl i) ∙ sym (ne_eqb i k n)))

-- a word with bit k put in
pub bit_insert : (w k i : ℕ) → bit (bit_or w (2 ^ k)) i ≡ (bit w i || eqb i k)
bit_insert w k i = bit-or w (2 ^ k) i ∙ ap (λ b. bit w i || b) (bit-pow k i)

-- the bits above the lowest are those of the half
pub bit_half : (w i : ℕ) → bit (w / 2) i ≡ bit w (suc i)
unfolding bit
bit_half w i = rw (div-div-eq-div-mul, mul_comm 2 (2 ^ i), ← pow-suc 2 i)

pub half_lt : {a : ℕ} (k : ℕ) → a < 2 ^ suc k → a / 2 < 2 ^ k
half_lt {a} k h = let l = rw (pow-suc 2 k) at h in omega arith

-- two words with the same bits are equal
pub same_bits : (n a b : ℕ) → a < 2 ^ n → b < 2 ^ n → ((i : ℕ) → i < n → bit a i ≡ bit b i) → a ≡ b
unfolding bit
same_bits zero a b h l all = omega arith
same_bits (suc n) a b h l all =
    let high : a / 2 ≡ b / 2 = same_bits n (a / 2) (b / 2) (half_lt n h) (half_lt n l) (λ i m. bit_half a i ∙ all (suc i) (omega arith) ∙ sym (bit_half b i)) in
    let low : a % 2 ≡ b % 2 = same_digit (a % 2) (b % 2) (digit_lt a) (digit_lt b) (simp div-one at (all 0 (omega arith))) in
    omega arith

-- shifts: 1 shifted left by i in a word of w bits
pub shift_one : {i w : ℕ} → i < w → 1 * 2 ^ i % 2 ^ w ≡ 2 ^ i
shift_one {i} {w} l = ap (λ v. v % 2 ^ w) (one-mul (2 ^ i)) ∙ mod-eq_of_lt (pow-lt l)

-- sets of numbers as words

pub set_none : (n : ℕ) → SetOf n 0 (λ i. false)
set_none n = record { below = pow_pos n; member = λ i l. bit_zero i }

-- nothing is below 0: where a loop begins
pub set_zero : (t : ℕ → Bool) → SetOf 0 0 t
set_zero t = record { below = pow_pos 0; member = λ i l. none_below l }

pub set_cong : {n w : ℕ} {t u : ℕ → Bool} → ((i : ℕ) → i < n → t i ≡ u i) → SetOf n w t → SetOf n w u
set_cong e s = record { below = s.below; member = λ i l. s.member i l ∙ e i l }

-- of the bits of any word, those that a set holds
pub set_within : (v : ℕ) {n w : ℕ} {t u : ℕ → Bool} → ((i : ℕ) → i < n → bit v i ≡ t i) → SetOf n w u → SetOf n (bit_and v w) (λ i. t i && u i)
set_within v {w = w} s r =
    record {
      below = lt_of_le_of_lt (and_le_r v w) r.below;
      member = λ i l. bit-and v w i ∙ ap₂ ◌&&◌ (s i l) (r.member i l);
    }

pub set_and : {n v w : ℕ} {t u : ℕ → Bool} → SetOf n v t → SetOf n w u → SetOf n (bit_and v w) (λ i. t i && u i)
set_and {v = v} s r = set_within v s.member r

pub set_or : {n v w : ℕ} {t u : ℕ → Bool} → SetOf n v t → SetOf n w u → SetOf n (bit_or v w) (λ i. t i || u i)
set_or {n} {v} {w} s r =
    record {
      below = or_lt n v w s.below r.below;
      member = λ i l. bit-or v w i ∙ ap₂ ◌||◌ (s.member i l) (r.member i l);
    }

-- members taken off
pub set_off : {n v w : ℕ} {t u : ℕ → Bool} → SetOf n v t → SetOf n w u → ((i : ℕ) → i < n → u i ≡ true → t i ≡ true) → SetOf n (bit_xor v w) (λ i. t i && not (u i))
set_off {n} {v} {w} {t} {u} s r part =
    record {
      below = xor_lt n v w s.below r.below;
      member = λ i l. bit_xor_lem v w i ∙ ap₂ (λ a b. cond b (not a) a) (s.member i l) (r.member i l) ∙ off (t i) (u i) (part i l);
    }
  where
    off : (a b : Bool) → (b ≡ true → a ≡ true) → cond b (not a) a ≡ (a && not b)
    off true true h = refl
    off true false h = refl
    off false true h = sym (h refl)
    off false false h = refl

-- a number more
pub set_insert : {n w k : ℕ} {t : ℕ → Bool} → SetOf n w t → k < n → SetOf n (bit_or w (2 ^ k)) (λ i. t i || eqb i k)
set_insert {n} {w} {k} s l =
    record {
      below = or_lt n w (2 ^ k) s.below (pow-lt l);
      member = λ i h. bit_insert w k i ∙ ap (λ b. b || eqb i k) (s.member i h);
    }

-- the bound grown by one: the new number fails, or passes and is put in
pub set_skip : {k w : ℕ} {t : ℕ → Bool} → SetOf k w t → t k ≡ false → SetOf (k + 1) w t
set_skip {k} {w} {t} s e =
    record {
      below = lt_of_lt_of_le s.below (pow_mono (omega arith));
      member = λ i l. by_top (rw add-one at l) (λ q. rw q (bit-above s.below (le_refl k) ∙ sym e)) (λ m. s.member i m);
    }

pub set-take : {k w : ℕ} {t : ℕ → Bool} → SetOf k w t → t k ≡ true → SetOf (k + 1) (bit_or w (2 ^ k)) t
set-take {k} {w} {t} s e =
    let more : w < 2 ^ (k + 1) = lt_of_lt_of_le s.below (pow_mono (omega arith)) in
    record {
      below = or_lt (k + 1) w (2 ^ k) more (pow-lt (omega arith));
      member =
          λ i l. bit_insert w k i
          ∙ by_top (rw add-one at l)
          (λ q. rw q (or_right (bit w k) (eq-eqb k k refl) ∙ sym e))
          (λ m. let n : i ≡ k → ⊥ = omega arith in ap (λ b. bit w i || b) (ne_eqb i k n) ∙ or-false (bit w i) ∙ s.member i m);
    }

-- or either, by a test that says which
pub set_unless : {k w : ℕ} {t : ℕ → Bool} (d : Bool) → SetOf k w t → t k ≡ not d → SetOf (k + 1) (cond d w (bit_or w (2 ^ k))) t
set_unless true s e = set_skip s e
set_unless false s e = set-take s e

-- a set has one word
pub set_unique : {n v w : ℕ} {t : ℕ → Bool} → SetOf n v t → SetOf n w t → v ≡ w
set_unique {n} {v} {w} s r = same_bits n v w s.below r.below (λ i l. s.member i l ∙ sym (r.member i l))

-- a set holds nothing just where its word is 0

pub set_empty : {n : ℕ} {t : ℕ → Bool} → SetOf n 0 t → (i : ℕ) → i < n → t i ≡ false
set_empty s i l = sym (s.member i l) ∙ bit_zero i

pub set_some : {n w : ℕ} {t : ℕ → Bool} → SetOf n w t → any_below n t ≡ not (eqb w 0)
set_some {n} {w} {t} s =
    by_same w 0
    (λ e. any_none_intro n t (set_empty (rw e at s)) ∙ sym (ap not (eq-eqb w 0 e)))
    (λ e. not_no (any_below n t) (λ none. e (set_unique s (set_cong (λ i l. sym (any_none n t none i l)) (set_none n)))) ∙ sym (ap not (ne_eqb w 0 e)))
