-- Laws of Boolean tests: cases with the equation kept, and, or, not, comparisons, cond.
-- Assumes nothing.
use Prim.Native.Nat.{ℕ, suc, ◌*◌, ◌≤◌, ◌<◌, zero-le}
use mathlib.Core.Bool.{Bool, true, false, cond, not, ◌&&◌, ◌||◌, true≢false, false≢true, and-true}
use mathlib.Core.Path.{◌≡◌, refl, sym, ◌∙◌}
use native.Mathlib.Nat.{mul-zero, mul-le-mul_left, mul-lt-mul_of_pos_left, le_of_mul-le-mul_left, lt_of_mul-lt-mul_left}
use native.Mathlib.Omega.{arith}
use lib.Dec.{eqb, leb, ltb}
use borrow.Author.Tests.{eq-eqb, leb-true, le-leb}

-- cases on a test
pub by_test {ℓ} : {A : Type ℓ} (b : Bool) → (b ≡ true → A) → (b ≡ false → A) → A
by_test true hit miss = hit refl
by_test false hit miss = miss refl

-- a property of a conditional, by cases on its test
pub by_cond {ℓ κ} : {A : Type ℓ} (P : A → Type κ) (b : Bool) (x y : A) → (b ≡ true → P x) → (b ≡ false → P y) → P (cond b x y)
by_cond P true x y hit miss = hit refl
by_cond P false x y hit miss = miss refl

pub clash : {b : Bool} → b ≡ true → b ≡ false → ⊥
clash h k = true≢false (sym h ∙ k)

-- what is not false is true
pub not_no : (b : Bool) → (b ≡ false → ⊥) → b ≡ true
not_no true h = refl
not_no false h = absurd (h refl)

-- what is not true is false
pub not_yes : (b : Bool) → (b ≡ true → ⊥) → b ≡ false
not_yes true h = absurd (h refl)
not_yes false h = refl

-- two tests that pass together are equal
pub bool_eq : {a b : Bool} → (a ≡ true → b ≡ true) → (b ≡ true → a ≡ true) → a ≡ b
bool_eq {a} {b} h k = by_test a (λ e. e ∙ sym (h e)) (λ e. e ∙ sym (not_yes b (λ p. clash (k p) e)))

-- b fails where a does, if b passing makes a pass
pub fails_of : {a b : Bool} → (b ≡ true → a ≡ true) → a ≡ false → b ≡ false
fails_of {a} {b} h e = not_yes b (λ p. clash (h p) e)

-- and

pub and_elim : (a b : Bool) → a && b ≡ true → (a ≡ true) × (b ≡ true)
and_elim true b e = (refl, e)
and_elim false b e = absurd (false≢true e)

pub and_intro : {a b : Bool} → a ≡ true → b ≡ true → a && b ≡ true
and_intro {a} {b} h k = rw (h, k)

pub and_cases {ℓ} : {A : Type ℓ} (a b : Bool) → a && b ≡ false → (a ≡ false → A) → (b ≡ false → A) → A
and_cases true b e left right = right e
and_cases false b e left right = left refl

-- the second fails, if the first passes
pub and_rest : {a : Bool} (b : Bool) → a && b ≡ false → a ≡ true → b ≡ false
and_rest {a} b e h = rw h at e

pub and_no_left : {a : Bool} (b : Bool) → a ≡ false → a && b ≡ false
and_no_left {a} b h = rw h

pub and_no_right : (a : Bool) {b : Bool} → b ≡ false → a && b ≡ false
and_no_right true h = h
and_no_right false h = refl

pub and_keep : (a : Bool) {b : Bool} → b ≡ false → a && not b ≡ a
and_keep a h = rw h (and-true a)

-- or

pub or_cases {ℓ} : {A : Type ℓ} (a b : Bool) → a || b ≡ true → (a ≡ true → A) → (b ≡ true → A) → A
or_cases true b e left right = left refl
or_cases false b e left right = right e

-- the second passes, if the first fails
pub or_rest : {a : Bool} (b : Bool) → a || b ≡ true → a ≡ false → b ≡ true
or_rest {a} b e h = rw h at e

pub or_left : {a : Bool} (b : Bool) → a ≡ true → a || b ≡ true
or_left {a} b h = rw h

pub or_right : (a : Bool) {b : Bool} → b ≡ true → a || b ≡ true
or_right true h = refl
or_right false h = h

pub or_none : (a b : Bool) → a || b ≡ false → (a ≡ false) × (b ≡ false)
or_none true b e = absurd (true≢false e)
or_none false b e = (refl, e)

pub or_none_intro : {a b : Bool} → a ≡ false → b ≡ false → a || b ≡ false
or_none_intro {a} {b} h k = rw (h, k)

-- not

pub not_on : {b : Bool} → b ≡ false → not b ≡ true
not_on h = rw h

pub not_off : {b : Bool} → b ≡ true → not b ≡ false
not_off h = rw h

-- equality of numbers as a test

pub eqb_same : (a : ℕ) → eqb a a ≡ true
eqb_same a = eq-eqb a a refl

-- comparison of numbers as a test

leb_same : (a b c d : ℕ) → (a ≤ b → c ≤ d) → (c ≤ d → a ≤ b) → leb a b ≡ leb c d
leb_same a b c d f g =
    bool_eq (λ e. le-leb c d (f (leb-true a b e))) (λ e. le-leb a b (g (leb-true c d e)))

-- two numbers, each k times, are two others, each l times: they compare alike
module _ {k l : ℕ} (a b c d : ℕ) (e : k * a ≡ l * c) (f : k * b ≡ l * d) (pk : 0 < k) (pl : 0 < l) where
  pub leb_scaled : leb a b ≡ leb c d
  leb_scaled =
      leb_same a b c d
      (λ h. le_of_mul-le-mul_left {k = l} (omega (arith, mul-le-mul_left k h)) pl)
      (λ h. le_of_mul-le-mul_left {k = k} (omega (arith, mul-le-mul_left l h)) pk)

  pub ltb_scaled : ltb a b ≡ ltb c d
  ltb_scaled =
      leb_same (suc a) b (suc c) d
      (λ h. lt_of_mul-lt-mul_left l (omega (arith, mul-lt-mul_of_pos_left h pk)))
      (λ h. lt_of_mul-lt-mul_left k (omega (arith, mul-lt-mul_of_pos_left h pl)))

-- cond

module _ {ℓ} {A : Type ℓ} (x y : A) where
  pub cond_true : {b : Bool} → b ≡ true → cond b x y ≡ x
  cond_true h = rw h

  pub cond_false : {b : Bool} → b ≡ false → cond b x y ≡ y
  cond_false h = rw h

pub cond_same {ℓ} : {A : Type ℓ} (b : Bool) (x : A) → cond b x x ≡ x
cond_same true x = refl
cond_same false x = refl

-- equal tests, and arms equal where they are taken
pub cond_cong {ℓ} : {A : Type ℓ} {a b : Bool} {x y u v : A} → a ≡ b → (b ≡ true → x ≡ u) → (b ≡ false → y ≡ v) → cond a x y ≡ cond b u v
cond_cong {b = b} {x} {y} {u} {v} e hit miss = rw e (by_test b (λ h. rw h (hit h)) (λ h. rw h (miss h)))

pub cond-not {ℓ} : {A : Type ℓ} (b : Bool) (x y : A) → cond (not b) x y ≡ cond b y x
cond-not true x y = refl
cond-not false x y = refl

pub cond-le : (b : Bool) {x y z : ℕ} → (b ≡ true → x ≤ z) → (b ≡ false → y ≤ z) → cond b x y ≤ z
cond-le b {x} {y} {z} = by_cond (λ v. v ≤ z) b x y

pub le-cond : (b : Bool) {x y z : ℕ} → (b ≡ true → z ≤ x) → (b ≡ false → z ≤ y) → z ≤ cond b x y
le-cond b {x} {y} {z} = by_cond (λ v. z ≤ v) b x y

pub cond_scale : (k : ℕ) (b : Bool) (x : ℕ) → k * cond b x 0 ≡ cond b (k * x) 0
cond_scale k true x = refl
cond_scale k false x = mul-zero k

-- the arm of a stricter test is at most the arm of a wider one
pub cond_mono : (a b : Bool) {x y : ℕ} → (a ≡ true → b ≡ true) → (a ≡ true → x ≤ y) → cond a x 0 ≤ cond b y 0
cond_mono true b {x} {y} h le = rw (h refl) (le refl)
cond_mono false b h le = zero-le
