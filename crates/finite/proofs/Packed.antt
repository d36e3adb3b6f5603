-- Laws of tests packed as the bits of bytes: which bit is which test, how many are set, and whether any is set after the last.
-- Assumes nothing.
use Prim.Native.Nat.{ℕ, zero, suc, ◌+◌, ◌*◌, ◌-◌, ◌/◌, ◌%◌, ◌^◌, ◌≤◌, ◌<◌}
use mathlib.Core.Bool.{Bool, true, false, cond, not, ◌&&◌}
use mathlib.Core.List.{List}
use mathlib.Core.Path.{◌≡◌, refl, sym, ap, ap₂, ◌∙◌}
use native.Mathlib.Nat.{mod-lt, div-one, pow-suc}
use native.Mathlib.Omega.{arith}
use lib.Count.{ones, ones_step, ones-ones}
use lib.Dec.{eqb, ltb}
use lib.ListN.{length, get_or}
use lib.Pow.{pow_pos, field, mod-mod-pow}
use borrow.Author.Tests.{eq-eqb, eqb-true}
use Rattle.finite.specs.Sums.{sum_to, count_to}
use Rattle.finite.specs.Search.{any_below, all_below}
use Rattle.finite.specs.Bits.{bit}
use Rattle.finite.specs.Packed.{bit_at, bytes_for, pack_bits, packed_byte, packed}
use Rattle.finite.proofs.Tests.{bool_eq}
use Rattle.finite.proofs.Below.{none_below, by_top}
use Rattle.finite.proofs.Sums.{sum_cong, sum_split, sum_front}
use Rattle.finite.proofs.Counts.{ones as each-one, count_full, count_none}
use Rattle.finite.proofs.Search.{any_elim, any_intro, any_cong, all_intro, all_elim}
use Rattle.finite.proofs.Lists.{tab_length, tab_at}
use Rattle.finite.proofs.Bits.{bit_half, half_lt, last_digit, same_bits, set_some}

-- a digit as a number and as a test

-- a digit is the number that its test makes
digit_test : {x : ℕ} → x < 2 → cond (eqb x 1) 1 0 ≡ x
digit_test {x} l = by_top l (λ e. rw e) (λ h. let z : x ≡ 0 = omega arith in rw z)

pub digit_below : (t : Bool) → cond t 1 0 < 2
digit_below true = omega arith
digit_below false = omega arith

pub digit_is : (t : Bool) → eqb (cond t 1 0) 1 ≡ t
digit_is true = refl
digit_is false = refl

pub digit_zero : (t : Bool) → eqb (cond t 1 0) 0 ≡ not t
digit_zero true = refl
digit_zero false = refl

ones_zero : ones 0 ≡ 0
ones_zero = ones-ones 0

-- how many bits of a number are set

pub bit_digit : (x k : ℕ) → cond (bit x k) 1 0 ≡ x / 2 ^ k % 2
unfolding bit
bit_digit x k = digit_test (mod-lt (x / 2 ^ k) (omega arith))

lowest_digit : (x : ℕ) → cond (bit x 0) 1 0 ≡ x % 2
lowest_digit x = bit_digit x 0 ∙ ap (λ v. v % 2) (div-one x)

pub ones_count : (k x : ℕ) → x < 2 ^ k → ones x ≡ count_to k (bit x)
unfolding count_to sum_to
ones_count zero x l = let z : x ≡ 0 = omega arith in rw z ones_zero
ones_count (suc k) x l =
    ones_step x
    ∙ ap₂ ◌+◌ (sym (lowest_digit x)) (ones_count k (x / 2) (half_lt k l) ∙ sum_cong k (λ c _. ap (λ t. cond t 1 0) (bit_half x c)))
    ∙ sym (sum_front k (λ c. cond (bit x c) 1 0))

-- the other way round there are as many
count_back : (x : ℕ) → count_to 8 (λ j. bit x (7 - j)) ≡ count_to 8 (bit x)
unfolding count_to sum_to
count_back x = omega arith

-- the bits of bytes

pub bit_in_byte : (xs : List ℕ) (k j : ℕ) → j < 8 → bit_at xs (8 * k + j) ≡ bit (get_or xs k 0) (7 - j)
unfolding bit_at
bit_in_byte xs k j l =
    let at : (8 * k + j) / 8 ≡ k = omega arith in
    let in_it : (8 * k + j) % 8 ≡ j = omega arith in
    rw (at, in_it)

-- how many are set: a byte more adds its count of ones
pub count_byte : (xs : List ℕ) (k : ℕ) → get_or xs k 0 < 256 → count_to (8 * (k + 1)) (bit_at xs) ≡ count_to (8 * k) (bit_at xs) + ones (get_or xs k 0)
unfolding count_to
count_byte xs k l =
    let more : 8 * (k + 1) ≡ 8 * k + 8 = omega arith in
    ap (λ n. sum_to n (λ c. cond (bit_at xs c) 1 0)) more
    ∙ sum_split (8 * k) 8 (λ c. cond (bit_at xs c) 1 0)
    ∙ ap (λ n. sum_to (8 * k) (λ c. cond (bit_at xs c) 1 0) + n)
    (sum_cong 8 (λ j h. ap (λ t. cond t 1 0) (bit_in_byte xs k j h)) ∙ count_back (get_or xs k 0) ∙ sym (ones_count 8 (get_or xs k 0) l))

-- none is set from m on
pub count_rest : {m n : ℕ} (t : ℕ → Bool) → m ≤ n → ((k : ℕ) → k < n - m → t (m + k) ≡ false) → count_to n t ≡ count_to m t
unfolding count_to
count_rest {m} {n} t le none =
    let parts : n ≡ m + (n - m) = omega arith in
    let nothing : sum_to (n - m) (λ k. cond (t (m + k)) 1 0) ≡ 0 = count_none (n - m) (λ k. t (m + k)) none in
    ap (λ k. sum_to k (λ c. cond (t c) 1 0)) parts ∙ sum_split m (n - m) (λ c. cond (t c) 1 0) ∙ omega (arith, nothing)

pub all_counted : (n : ℕ) (t : ℕ → Bool) → all_below n t ≡ eqb (count_to n t) n
unfolding count_to
all_counted n t =
    bool_eq
    (λ e. eq-eqb (count_to n t) n (sum_cong n (λ c l. ap (λ b. cond b 1 0) (all_elim n t e c l)) ∙ each-one n))
    (λ e. all_intro n t (count_full n t (eqb-true (count_to n t) n e)))

-- bits packed

pub pack_below : (k : ℕ) (t : ℕ → Bool) → pack_bits k t < 2 ^ k
unfolding pack_bits
pack_below zero t = omega arith
pack_below (suc k) t = let l = pack_below k t in rw (pow-suc 2 k) (omega (arith, digit_below (t k)))

bit_last : (x : ℕ) (t : Bool) → bit (x * 2 + cond t 1 0) 0 ≡ t
unfolding bit
bit_last x t = rw (div-one, last_digit x (cond t 1 0) (digit_below t)) (digit_is t)

bit_above_last : (x : ℕ) (t : Bool) (i : ℕ) → bit (x * 2 + cond t 1 0) (suc i) ≡ bit x i
bit_above_last x t i =
    let half : (x * 2 + cond t 1 0) / 2 ≡ x = omega (arith, digit_below t) in
    sym (bit_half (x * 2 + cond t 1 0) i) ∙ ap (λ v. bit v i) half

pub pack_bit : (k : ℕ) (t : ℕ → Bool) (j : ℕ) → j < k → bit (pack_bits k t) (k - 1 - j) ≡ t j
unfolding pack_bits
pack_bit zero t j l = none_below l
pack_bit (suc k) t j l =
    by_top l
    (λ e. let z : suc k - 1 - j ≡ 0 = omega arith in rw (z, e) (bit_last (pack_bits k t) (t k)))
    (λ h. let s : suc k - 1 - j ≡ suc (k - 1 - j) = omega arith in rw s (bit_above_last (pack_bits k t) (t k) (k - 1 - j) ∙ pack_bit k t j h))

-- a byte is what its bits pack to
pub byte_packs : (x : ℕ) (t : ℕ → Bool) → x < 256 → ((j : ℕ) → j < 8 → bit x (7 - j) ≡ t j) → x ≡ pack_bits 8 t
byte_packs x t l same =
    same_bits 8 x (pack_bits 8 t) l (pack_below 8 t) λ i h.
    let back : 7 - (7 - i) ≡ i = omega arith in
    let place = 7 - i in
    let here : place < 8 = omega arith in
    rw back at (same place here ∙ sym (pack_bit 8 t place here))

pub packed_long : (m : ℕ) (t : ℕ → Bool) → length (packed m t) ≡ bytes_for m
unfolding packed
packed_long m t = tab_length (bytes_for m) (packed_byte m t)

-- bit c of what is packed is test c, or 0 after the last
pub packed-bit : (m : ℕ) (t : ℕ → Bool) (c : ℕ) → c < 8 * bytes_for m → bit_at (packed m t) c ≡ (ltb c m && t c)
unfolding bit_at packed packed_byte
packed-bit m t c l =
    let byte : c / 8 < bytes_for m = omega arith in
    let place : c % 8 < 8 = omega arith in
    let here : 8 * (c / 8) + c % 8 ≡ c = omega arith in
    ap (λ x. bit x (7 - c % 8)) (tab_at (packed_byte m t) (c / 8) 0 byte)
    ∙ pack_bit 8 (λ j. ltb (8 * (c / 8) + j) m && t (8 * (c / 8) + j)) (c % 8) place
    ∙ ap (λ k. ltb k m && t k) here

-- a set bit after the last of m

pub bit_of_rest : {i d : ℕ} (x : ℕ) → i < d → bit (x % 2 ^ d) i ≡ bit x i
unfolding bit
bit_of_rest {i} {d} x l =
    let j = d - i - 1 in
    let all : d ≡ suc j + i = omega arith in
    let more : suc j ≡ j + 1 = omega arith in
    rw (all, field x (suc j) i, more, mod-mod-pow (x / 2 ^ i) j 1)

low_bits : (d x : ℕ) → any_below d (bit x) ≡ not (eqb (x % 2 ^ d) 0)
low_bits d x = set_some {t = bit x} (record { below = mod-lt x (pow_pos d); member = λ i l. bit_of_rest x l })

pub any_back : (d : ℕ) (t : ℕ → Bool) → any_below d (λ k. t (d - 1 - k)) ≡ any_below d t
any_back d t =
    bool_eq
    (λ e. let h = any_elim d (λ k. t (d - 1 - k)) e in any_intro t (d - 1 - h.index) (omega (arith, h.below)) h.passes)
    (λ e.
    let h = any_elim d t e in
    let back : d - 1 - (d - 1 - h.index) ≡ h.index = omega (arith, h.below) in
    any_intro (λ k. t (d - 1 - k)) (d - 1 - h.index) (omega (arith, h.below)) (rw back h.passes))

-- the bits from m on lie in the last byte, where they are the lowest
pub set_after_lem : (xs : List ℕ) (m : ℕ) → 0 < m → any_below (8 * bytes_for m - m) (λ k. bit_at xs (m + k)) ≡ not (eqb (get_or xs (bytes_for m - 1) 0 % 2 ^ (8 * bytes_for m - m)) 0)
set_after_lem xs m some =
    let last = bytes_for m - 1 in
    let d = 8 * bytes_for m - m in
    any_cong d (λ k l.
    let here : m + k ≡ 8 * last + (8 - d + k) = omega arith in
    let place : 7 - (8 - d + k) ≡ d - 1 - k = omega arith in
    ap (bit_at xs) here ∙ bit_in_byte xs last (8 - d + k) (omega arith) ∙ ap (bit (get_or xs last 0)) place)
    ∙ any_back d (bit (get_or xs last 0))
    ∙ low_bits d (get_or xs last 0)
