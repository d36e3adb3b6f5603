-- Going through the set bits of a word from the lowest on.
-- Assumes nothing.
use Prim.Native.Nat.{ℕ, zero, suc, ◌+◌, ◌-◌, ◌*◌, ◌/◌, ◌%◌, ◌^◌, ◌≤◌, ◌<◌, min}
use mathlib.Core.Bool.{Bool, true, false, not, ◌&&◌, and-true, and-not_self, or-false}
use mathlib.Core.Path.{◌≡◌, refl, sym, ap, ap₂, ◌∙◌}
use native.Mathlib.Nat.{le_refl, le_of_suc-le-suc, lt_of_lt_of_le, div-one, pow-suc}
use native.Mathlib.Omega.{arith}
use lib.Bits.{bit_and, bit_or, and_step, and_self}
use lib.Count.{count_trailing_zeros, trailing_of_zero, under}
use lib.Dec.{eqb, eqb-zero-suc, eqb-suc-zero, eqb-suc-suc}
use lib.Pow.{pow_mono}
use borrow.Author.Tests.{eqb-true, ne_eqb}
use Rattle.finite.specs.Bits.{bit, SetOf}
use Rattle.finite.specs.Search.{first_below}
use Rattle.finite.proofs.Tests.{clash, and_elim, and_no_left, and_no_right, and_keep, or_right, eqb_same}
use Rattle.finite.proofs.Below.{none_below, by_less, by_same}
use Rattle.finite.proofs.Search.{first_unique, first_none_intro}
use Rattle.finite.proofs.Bits.{bit_zero, bit-above, bit_half, half_lt, shift_one, set_none, set_cong, set_insert}

-- the lowest bit tells whether the word is odd

bit_low : (w : ℕ) → bit w 0 ≡ eqb (w % 2) 1
unfolding bit
bit_low w = rw div-one

odd_bit : (w : ℕ) → w % 2 ≡ 1 → bit w 0 ≡ true
odd_bit w e = bit_low w ∙ ap (λ r. eqb r 1) e

bit_odd : (w : ℕ) → bit w 0 ≡ true → w % 2 ≡ 1
bit_odd w h = eqb-true (w % 2) 1 (sym (bit_low w) ∙ h)

-- above the closing zeros of a word other than 0 a bit is set
pub lowest_set : (d w : ℕ) → 0 < w → w < 2 ^ d → bit w (count_trailing_zeros d w) ≡ true
unfolding count_trailing_zeros
lowest_set zero w h l = absurd (let e : ⊥ = omega arith in e)
lowest_set (suc d) w h l = go (w % 2) refl (λ e. lowest_set d (w / 2) (omega arith) (half_lt d l))
  where
    go : (r : ℕ) → w % 2 ≡ r → (w % 2 ≡ 0 → bit (w / 2) (count_trailing_zeros d (w / 2)) ≡ true) → bit w (under r (count_trailing_zeros d (w / 2))) ≡ true
    go zero e ih = sym (bit_half w (count_trailing_zeros d (w / 2))) ∙ ih e
    go (suc r) e ih = odd_bit w (omega arith)

-- below them none is
pub lowest_clear : (d w i : ℕ) → i < count_trailing_zeros d w → bit w i ≡ false
unfolding count_trailing_zeros
lowest_clear zero w i l = none_below l
lowest_clear (suc d) w i l = go (w % 2) refl i l (lowest_clear d (w / 2))
  where
    go : (r : ℕ) → w % 2 ≡ r → (i : ℕ) → i < under r (count_trailing_zeros d (w / 2)) → ((j : ℕ) → j < count_trailing_zeros d (w / 2) → bit (w / 2) j ≡ false) → bit w i ≡ false
    go zero e zero l ih = bit_low w ∙ ap (λ r. eqb r 1) e
    go zero e (suc i) l ih = sym (bit_half w i) ∙ ih i (le_of_suc-le-suc l)
    go (suc r) e i l ih = none_below l

-- the first set bit of those below n

module _ (d w n : ℕ) where
  pub first_set : w < 2 ^ d → n ≤ d → count_trailing_zeros d w < n → first_below n (λ i. bit w i) ≡ count_trailing_zeros d w
  first_set few le l =
      by_same w 0
      (λ e. absurd (let z : ⊥ = omega (arith, ap (count_trailing_zeros d) e ∙ trailing_of_zero d) in z))
      (λ ne. first_unique (record { below = l; passes = lowest_set d w (omega arith) few; before = lowest_clear d w }))

  pub none_set : n ≤ count_trailing_zeros d w → first_below n (λ i. bit w i) ≡ n
  none_set le = first_none_intro n (λ i. bit w i) (λ i l. lowest_clear d w i (lt_of_lt_of_le l le))

-- a word and the number before it: the lowest set bit is dropped
pub lowest_drop : (d w : ℕ) → 0 < w → w < 2 ^ d → bit_and w (w - 1) ≡ w - 2 ^ count_trailing_zeros d w
unfolding count_trailing_zeros
lowest_drop zero w h l = absurd (let e : ⊥ = omega arith in e)
lowest_drop (suc d) w h l = and_step w (w - 1) ∙ go (w % 2) refl (λ e. lowest_drop d (w / 2) (omega arith) (half_lt d l))
  where
    go :
        (r : ℕ) → w % 2 ≡ r → (w % 2 ≡ 0 → bit_and (w / 2) (w / 2 - 1) ≡ w / 2 - 2 ^ count_trailing_zeros d (w / 2))
        → bit_and (w / 2) ((w - 1) / 2) * 2 + min (w % 2) ((w - 1) % 2) ≡ w - 2 ^ under r (count_trailing_zeros d (w / 2))
    go zero e ih =
        let half : (w - 1) / 2 ≡ w / 2 - 1 = omega arith in
        rw (e, half, ih e, pow-suc 2 (count_trailing_zeros d (w / 2))) (omega arith)
    go (suc r) e ih =
        let half : (w - 1) / 2 ≡ w / 2 = omega arith in
        let even : (w - 1) % 2 ≡ 0 = omega arith in
        rw (half, even, and_self (w / 2)) (omega arith)

module _ (w t : ℕ) (h : bit w t ≡ true) where
  -- a set bit is below the bound of the word, and its power of 2 at most the word
  pub set_bit_below : {n : ℕ} → w < 2 ^ n → t < n
  set_bit_below {n} l = by_less t n (λ m. m) (λ m. absurd (clash h (bit-above l m)))

  pub set-bit-le : 2 ^ t ≤ w
  set-bit-le = by_less w (2 ^ t) (λ m. absurd (clash h (bit-above m (le_refl t)))) (λ m. m)

-- the word without one of its bits has the others

halves : (v w i : ℕ) → v / 2 ≡ w / 2 → bit v (suc i) ≡ bit w (suc i)
halves v w i e = sym (bit_half v i) ∙ ap (λ x. bit x i) e ∙ bit_half w i

pub bit_remove : (t w i : ℕ) → bit w t ≡ true → bit (w - 2 ^ t) i ≡ (bit w i && not (eqb i t))
bit_remove zero w zero h =
    let odd = bit_odd w h in
    let even : (w - 1) % 2 ≡ 0 = omega arith in
    rw h (bit_low (w - 1) ∙ ap (λ r. eqb r 1) even)
bit_remove zero w (suc i) h =
    let odd = bit_odd w h in
    halves (w - 1) w i (omega arith) ∙ sym (and_keep (bit w (suc i)) (eqb-suc-zero i))
bit_remove (suc t) w zero h =
    let p = pow-suc 2 t in
    let same : (w - 2 ^ suc t) % 2 ≡ w % 2 = omega (arith, set-bit-le w (suc t) h) in
    bit_low (w - 2 ^ suc t) ∙ ap (λ r. eqb r 1) same ∙ sym (bit_low w) ∙ sym (and_keep (bit w 0) (eqb-zero-suc t))
bit_remove (suc t) w (suc i) h =
    let p = pow-suc 2 t in
    let half : (w - 2 ^ suc t) / 2 ≡ w / 2 - 2 ^ t = omega arith in
    let ih = bit_remove t (w / 2) i (bit_half w t ∙ h) in
    sym (bit_half (w - 2 ^ suc t) i) ∙ ap (λ v. bit v i) half ∙ ih ∙ ap₂ (λ a b. a && not b) (bit_half w i) (sym (eqb-suc-suc i t))

-- the bits that are left in a loop over those of w
pub record Rest (w rest : ℕ) : Type 0 where
  pub within : (t : ℕ) → bit rest t ≡ true → bit w t ≡ true
  pub small : rest ≤ w

-- bit t has been passed
unfoldable pub passed : ℕ → ℕ → ℕ → Bool
passed w rest t = bit w t && not (bit rest t)

pub rest_all : (w : ℕ) → Rest w w
rest_all w = record { within = λ t h. h; small = le_refl w }

pub passed_none : (w t : ℕ) → passed w w t ≡ false
unfolding passed
passed_none w t = and-not_self (bit w t)

pub passed_all : (w t : ℕ) → passed w 0 t ≡ bit w t
unfolding passed
passed_all w t = and_keep (bit w t) (bit_zero t)

-- not while it is left
pub passed_left : (w rest t : ℕ) → bit rest t ≡ true → passed w rest t ≡ false
unfolding passed
passed_left w rest t h = and_no_right (bit w t) (ap not h)

-- bit t is one of those left, and below n; the code shifts 1 by it in a word of d bits, and drops it
pub record Lowest (n d rest t : ℕ) : Type 0 where
  pub is_set : bit rest t ≡ true
  pub below : t < n
  pub part : 2 ^ t ≤ rest
  pub shifted : 1 * 2 ^ t % 2 ^ d ≡ 2 ^ t
  pub dropped : bit_and rest (rest - 1) ≡ rest - 2 ^ t

-- the lowest of them
pub lowest : {n w rest : ℕ} (d : ℕ) → n ≤ d → w < 2 ^ n → Rest w rest → 0 < rest → Lowest n d rest (count_trailing_zeros d rest)
lowest {n} {w} {rest} d le l r h =
    let few : rest < 2 ^ n = omega (arith, r.small) in
    let fits = lt_of_lt_of_le few (pow_mono le) in
    let on = lowest_set d rest h fits in
    let t = count_trailing_zeros d rest in
    let m : t < n = set_bit_below rest t on few in
    record { is_set = on; below = m; part = set-bit-le rest t on; shifted = shift_one (lt_of_lt_of_le m le); dropped = lowest_drop d rest h fits }

-- one more is passed
module _ {w rest : ℕ} (t : ℕ) (r : Rest w rest) (h : bit rest t ≡ true) where
  pub rest_next : Rest w (rest - 2 ^ t)
  rest_next =
      record {
        within = λ i e. r.within i (and_elim (bit rest i) (not (eqb i t)) (sym (bit_remove t rest i h) ∙ e)).0;
        small = omega (arith, r.small);
      }

  pub passed_here : passed w (rest - 2 ^ t) t ≡ true
  unfolding passed
  passed_here = rw (bit_remove t rest t h, h, r.within t h, eqb_same t)

  pub passed_other : (i : ℕ) → (i ≡ t → ⊥) → passed w (rest - 2 ^ t) i ≡ passed w rest i
  unfolding passed
  passed_other i n = rw (bit_remove t rest i h, ne_eqb i t n) (ap (λ b. bit w i && not b) (and-true (bit rest i)))

-- the set of the passed bits that pass a test

pub kept_none : (n w : ℕ) (u : ℕ → Bool) → SetOf n 0 (λ i. passed w w i && u i)
kept_none n w u = set_cong (λ i l. sym (and_no_left (u i) (passed_none w i))) (set_none n)

pub kept_all : {n found : ℕ} (w : ℕ) (u : ℕ → Bool) → SetOf n found (λ i. passed w 0 i && u i) → SetOf n found (λ i. bit w i && u i)
kept_all w u = set_cong (λ i l. ap (λ b. b && u i) (passed_all w i))

module _ {n w rest found : ℕ} (t : ℕ) (u : ℕ → Bool) (s : SetOf n found (λ i. passed w rest i && u i)) (r : Rest w rest) (h : bit rest t ≡ true) where
  pub kept_take : t < n → u t ≡ true → SetOf n (bit_or found (2 ^ t)) (λ i. passed w (rest - 2 ^ t) i && u i)
  kept_take l hit =
      set_cong
      (λ i m. by_same i t
      (λ e. rw (e, passed_here t r h, eqb_same t) (or_right (passed w rest t && u t) refl ∙ sym hit))
      (λ ne. rw (passed_other t r h i ne, ne_eqb i t ne) (or-false (passed w rest i && u i))))
      (set_insert s l)

  pub kept_skip : u t ≡ false → SetOf n found (λ i. passed w (rest - 2 ^ t) i && u i)
  kept_skip miss =
      set_cong
      (λ i m. by_same i t
      (λ e. rw (e, and_no_right (passed w rest t) miss, and_no_right (passed w (rest - 2 ^ t) t) miss))
      (λ ne. ap (λ b. b && u i) (sym (passed_other t r h i ne))))
      s
