-- Laws of sums over the numbers below a bound.
-- Assumes nothing.
use Prim.Native.Nat.{ℕ, zero, suc, ◌+◌, ◌*◌, ◌≤◌, ◌<◌, ◌∣◌}
use mathlib.Core.Path.{◌≡◌, refl, sym, ap, ap₂, ◌∙◌}
use native.Mathlib.Nat.{le_refl, add-zero, add-suc, mul-zero, zero-mul, suc-mul, mul-add, dvd-zero, dvd-add}
use native.Mathlib.Numerals.{add-one}
use native.Mathlib.Omega.{arith}
use Rattle.finite.specs.Sums.{sum_to}
use Rattle.finite.proofs.Below.{none_below, by_top, lower, by_less}

pub sum_zero : (f : ℕ → ℕ) → sum_to 0 f ≡ 0
unfolding sum_to
sum_zero f = refl

pub sum_next : (k : ℕ) (f : ℕ → ℕ) → sum_to (k + 1) f ≡ sum_to k f + f k
unfolding sum_to
sum_next k f = ap (λ n. sum_to n f) (add-one k)

pub sum_cong : (n : ℕ) {f g : ℕ → ℕ} → ((c : ℕ) → c < n → f c ≡ g c) → sum_to n f ≡ sum_to n g
unfolding sum_to
sum_cong zero h = refl
sum_cong (suc k) h = ap₂ ◌+◌ (sum_cong k (lower h)) (h k (le_refl _))

pub sum_mono : (n : ℕ) {f g : ℕ → ℕ} → ((c : ℕ) → c < n → f c ≤ g c) → sum_to n f ≤ sum_to n g
unfolding sum_to
sum_mono zero h = le_refl 0
sum_mono (suc k) h = omega (arith, sum_mono k (lower h), h k (le_refl _))

-- all at most, and one less
pub sum_strict : {n : ℕ} {f g : ℕ → ℕ} → ((c : ℕ) → c < n → f c ≤ g c) → (k : ℕ) → k < n → f k < g k → sum_to n f < sum_to n g
unfolding sum_to
sum_strict {n = zero} h k l s = none_below l
sum_strict {n = suc j} {f} {g} h k l s =
    let top : f j ≤ g j = h j (le_refl _) in
    by_top l (λ e. let here : f j < g j = rw e at s in omega (arith, sum_mono j (lower h)))
    (λ l'. omega (arith, sum_strict (lower h) k l' s))

pub sum_add : (n : ℕ) (f g : ℕ → ℕ) → sum_to n (λ c. f c + g c) ≡ sum_to n f + sum_to n g
unfolding sum_to
sum_add zero f g = refl
sum_add (suc k) f g = omega (arith, sum_add k f g)

pub sum_scale : (n k : ℕ) (f : ℕ → ℕ) → sum_to n (λ c. k * f c) ≡ k * sum_to n f
unfolding sum_to
sum_scale zero k f = sym (mul-zero k)
sum_scale (suc j) k f = rw (sum_scale j k f, mul-add)

pub sum_const : (n k : ℕ) → sum_to n (λ c. k) ≡ n * k
unfolding sum_to
sum_const zero k = sym (zero-mul k)
sum_const (suc j) k = rw (sum_const j k, suc-mul)

-- a sum of multiples
pub sum_multiple : (n k : ℕ) {f : ℕ → ℕ} → ((c : ℕ) → k ∣ f c) → k ∣ sum_to n f
unfolding sum_to
sum_multiple zero k h = dvd-zero k
sum_multiple (suc j) k h = dvd-add k (sum_multiple j k h) (h j)

pub sum_at_most : (n b : ℕ) {f : ℕ → ℕ} → ((c : ℕ) → c < n → f c ≤ b) → sum_to n f ≤ n * b
sum_at_most n b h = rw (← sum_const n b) (sum_mono n h)

pub sum_none : (n : ℕ) {f : ℕ → ℕ} → ((c : ℕ) → c < n → f c ≡ 0) → sum_to n f ≡ 0
sum_none n h = sum_cong n h ∙ sum_const n 0 ∙ mul-zero n

-- one changed point
pub sum_change : {n : ℕ} {f g : ℕ → ℕ} (k : ℕ) → k < n → ((c : ℕ) → c < n → (c ≡ k → ⊥) → f c ≡ g c) → sum_to n f + g k ≡ sum_to n g + f k
unfolding sum_to
sum_change {n = zero} k l h = none_below l
sum_change {n = suc j} {f} {g} k l h =
    by_top l
    (λ e. rw e (omega (arith, sum_cong j {f = f} {g = g} (λ c m. h c (omega arith) (λ q. omega arith)))))
    (λ l'. let top : f j ≡ g j = h j (le_refl _) (λ q. omega arith) in omega (arith, sum_change {n = j} {f = f} {g = g} k l' (λ c m. h c (omega arith))))

-- only one point counts
pub sum_single : {n : ℕ} (f : ℕ → ℕ) (k : ℕ) → k < n → ((c : ℕ) → c < n → (c ≡ k → ⊥) → f c ≡ 0) → sum_to n f ≡ f k
sum_single {n} f k l h =
    let e : sum_to n f + 0 ≡ sum_to n (λ c. 0) + f k = sum_change {f = f} {g = λ c. 0} k l h in
    omega (arith, sum_none n {f = λ c. 0} (λ c m. refl))

pub sum_point : {n : ℕ} (f : ℕ → ℕ) (k : ℕ) → k < n → f k ≤ sum_to n f
unfolding sum_to
sum_point {n = zero} f k l = none_below l
sum_point {n = suc j} f k l = by_top l (λ e. rw e (omega arith)) (λ l'. omega (arith, sum_point f k l'))

-- a sum so far with the next is part of the whole
pub sum_part : {n : ℕ} (f : ℕ → ℕ) (k : ℕ) → k < n → sum_to k f + f k ≤ sum_to n f
unfolding sum_to
sum_part {n = zero} f k l = none_below l
sum_part {n = suc j} f k l = by_top l (λ e. rw e (omega arith)) (λ l'. omega (arith, sum_part f k l'))

-- some point below n where f is less than g
pub record Less (n : ℕ) (f g : ℕ → ℕ) : Type 0 where
  pub index : ℕ
  pub below : index < n
  pub less : f index < g index

-- a lesser sum has a lesser point
pub sum_less : (n : ℕ) (f g : ℕ → ℕ) → sum_to n f < sum_to n g → Less n f g
unfolding sum_to
sum_less zero f g h = absurd (omega arith)
sum_less (suc k) f g h =
    by_less (f k) (g k) (λ l. record { index = k; below = le_refl _; less = l }) λ l.
    let r = sum_less k f g (omega arith) in
    record { index = r.index; below = omega arith; less = r.less }

pub sum_swap : (n m : ℕ) (f : ℕ → ℕ → ℕ) → sum_to n (λ i. sum_to m (λ c. f i c)) ≡ sum_to m (λ c. sum_to n (λ i. f i c))
unfolding sum_to
sum_swap zero m f = sym (sum_none m (λ c l. refl))
sum_swap (suc k) m f = rw (sum_swap k m f) (sym (sum_add m (λ c. sum_to k (λ i. f i c)) (f k)))

-- cut in two at n
pub sum_split : (n m : ℕ) (f : ℕ → ℕ) → sum_to (n + m) f ≡ sum_to n f + sum_to m (λ c. f (n + c))
unfolding sum_to
sum_split n zero f = rw (add-zero n) (omega arith)
sum_split n (suc k) f = rw add-suc (omega (arith, sum_split n k f))

-- the first one apart
pub sum_front : (k : ℕ) (f : ℕ → ℕ) → sum_to (suc k) f ≡ f 0 + sum_to k (λ c. f (suc c))
unfolding sum_to
sum_front zero f = omega arith
sum_front (suc k) f = omega (arith, sum_front k f)
