-- Laws of the tests and searches over the numbers below a bound.
-- Assumes nothing.
use Prim.Native.Nat.{ℕ, zero, suc, ◌+◌, ◌≤◌, ◌<◌, min}
use mathlib.Core.Bool.{Bool, true, false, not, ◌&&◌, ◌||◌}
use mathlib.Core.Path.{◌≡◌, refl, sym, ap, ap₂, ◌∙◌}
use native.Mathlib.Nat.{le_refl, le_antisymm, lt_of_lt_of_le, lt_of_le_of_lt}
use native.Mathlib.Numerals.{add-one}
use native.Mathlib.Omega.{arith}
use lib.Dec.{eqb, ltb}
use borrow.Author.Tests.{ltb-true, ltb-false, lt-ltb, le-ltb, ne_eqb, not-true, not-false}
use Rattle.finite.specs.Search.{any_below, all_below, first_step, first_below, Hit, Miss, First}
use Rattle.finite.proofs.Tests.{by_test, by_cond, clash, bool_eq, fails_of, not_yes, and_elim, and_intro, or_cases, or_left, or_right, or_none_intro, eqb_same}
use Rattle.finite.proofs.Below.{none_below, by_top, lower, by_less}

-- any_below

pub any_zero : (t : ℕ → Bool) → any_below 0 t ≡ false
unfolding any_below
any_zero t = refl

pub any_next : (k : ℕ) (t : ℕ → Bool) → any_below (k + 1) t ≡ (any_below k t || t k)
unfolding any_below
any_next k t = ap (λ n. any_below n t) (add-one k)

pub any_miss : (k : ℕ) (t : ℕ → Bool) → t k ≡ false → any_below (k + 1) t ≡ any_below k t
any_miss k t e = rw (any_next k t, e) (by_test (any_below k t) (λ h. rw h) (λ h. rw h))

pub any_intro : {n : ℕ} (t : ℕ → Bool) (i : ℕ) → i < n → t i ≡ true → any_below n t ≡ true
unfolding any_below
any_intro {n = zero} t i l h = none_below l
any_intro {n = suc k} t i l h =
    by_top l (λ e. or_right (any_below k t) (rw e at h)) (λ l'. or_left (t k) (any_intro t i l' h))

pub any_elim : (n : ℕ) (t : ℕ → Bool) → any_below n t ≡ true → Hit n t
unfolding any_below
any_elim zero t e = absurd (clash e refl)
any_elim (suc k) t e =
    or_cases (any_below k t) (t k) e
    (λ h. let r = any_elim k t h in let l : r.index < suc k = omega arith in record { index = r.index; below = l; passes = r.passes })
    (λ h. record { index = k; below = le_refl _; passes = h })

pub any_none : (n : ℕ) (t : ℕ → Bool) → any_below n t ≡ false → (i : ℕ) → i < n → t i ≡ false
any_none n t e i l = fails_of (any_intro t i l) e

pub any_none_intro : (n : ℕ) (t : ℕ → Bool) → ((i : ℕ) → i < n → t i ≡ false) → any_below n t ≡ false
any_none_intro n t all = not_yes _ (λ e. let r = any_elim n t e in clash r.passes (all r.index r.below))

pub any_cong : (n : ℕ) {t u : ℕ → Bool} → ((i : ℕ) → i < n → t i ≡ u i) → any_below n t ≡ any_below n u
unfolding any_below
any_cong zero h = refl
any_cong (suc k) h = ap₂ ◌||◌ (any_cong k (lower h)) (h k (le_refl _))

-- all_below

pub all_zero : (t : ℕ → Bool) → all_below 0 t ≡ true
unfolding all_below
all_zero t = refl

pub all_next : (k : ℕ) (t : ℕ → Bool) → all_below (k + 1) t ≡ (all_below k t && t k)
unfolding all_below
all_next k t = ap (λ n. all_below n t) (add-one k)

pub all_elim : (n : ℕ) (t : ℕ → Bool) → all_below n t ≡ true → (i : ℕ) → i < n → t i ≡ true
unfolding all_below
all_elim zero t e i l = none_below l
all_elim (suc k) t e i l =
    let both = and_elim (all_below k t) (t k) e in
    by_top l (λ q. rw q both.1) (λ l'. all_elim k t both.0 i l')

pub all_intro : (n : ℕ) (t : ℕ → Bool) → ((i : ℕ) → i < n → t i ≡ true) → all_below n t ≡ true
unfolding all_below
all_intro zero t all = refl
all_intro (suc k) t all = and_intro (all_intro k t (lower all)) (all k (le_refl _))

pub all_fails : (n : ℕ) (t : ℕ → Bool) → all_below n t ≡ false → Miss n t
all_fails n t e =
    by_test (any_below n (λ i. not (t i)))
    (λ h. let r = any_elim n _ h in record { index = r.index; below = r.below; fails = not-true _ r.passes })
    (λ h. absurd (clash (all_intro n t (λ i l. not-false _ (any_none n _ h i l))) e))

pub all_fails_intro : {n : ℕ} (t : ℕ → Bool) (i : ℕ) → i < n → t i ≡ false → all_below n t ≡ false
all_fails_intro {n} t i l h = not_yes _ (λ e. clash (all_elim n t e i l) h)

pub all_cong : (n : ℕ) {t u : ℕ → Bool} → ((i : ℕ) → i < n → t i ≡ u i) → all_below n t ≡ all_below n u
unfolding all_below
all_cong zero h = refl
all_cong (suc k) h = ap₂ ◌&&◌ (all_cong k (lower h)) (h k (le_refl _))

-- each of two numbers

pub pairs_elim : (n : ℕ) (t : ℕ → ℕ → Bool) → all_below n (λ i. all_below n (λ j. t i j)) ≡ true → (i j : ℕ) → i < n → j < n → t i j ≡ true
pairs_elim n t e i j l k = all_elim n (λ j. t i j) (all_elim n (λ i. all_below n (λ j. t i j)) e i l) j k

pub pairs_intro : (n : ℕ) (t : ℕ → ℕ → Bool) → ((i j : ℕ) → i < n → j < n → t i j ≡ true) → all_below n (λ i. all_below n (λ j. t i j)) ≡ true
pairs_intro n t all = all_intro n (λ i. all_below n (λ j. t i j)) (λ i l. all_intro n (λ j. t i j) (λ j. all i j l))

pub pairs_cong : (n : ℕ) {t u : ℕ → ℕ → Bool} → ((i j : ℕ) → t i j ≡ u i j) → all_below n (λ i. all_below n (λ j. t i j)) ≡ all_below n (λ i. all_below n (λ j. u i j))
pairs_cong n same = all_cong n (λ i _. all_cong n (λ j _. same i j))

-- first_below

pub first_zero : (t : ℕ → Bool) → first_below 0 t ≡ 0
unfolding first_below
first_zero t = refl

pub first_next : (k : ℕ) (t : ℕ → Bool) → first_below (k + 1) t ≡ first_step k (t k) (first_below k t)
unfolding first_below
first_next k t = ap (λ n. first_below n t) (add-one k)

pub first_miss : (k : ℕ) (t : ℕ → Bool) → first_below k t ≡ k → t k ≡ false → first_below (k + 1) t ≡ k + 1
unfolding first_step
first_miss k t e h = rw (first_next, e, le-ltb k k (le_refl k), h) (sym (add-one k))

pub first_le : (n : ℕ) (t : ℕ → Bool) → first_below n t ≤ n
unfolding first_below first_step
first_le zero t = le_refl 0
first_le (suc k) t =
    let ih = first_le k t in
    by_cond (λ r. r ≤ suc k) (ltb (first_below k t) k) _ _ (λ _. omega arith) λ _. by_cond (λ r. r ≤ suc k) (t k) _ _ (λ _. omega arith) (λ _. omega arith)

-- nothing before the first passes
pub first_before : (n : ℕ) (t : ℕ → Bool) (i : ℕ) → i < first_below n t → t i ≡ false
unfolding first_below first_step
first_before zero t = λ i l. none_below l
first_before (suc k) t =
    let ih = first_before k t in
    by_cond (λ r. (i : ℕ) → i < r → t i ≡ false) (ltb (first_below k t) k) _ _ (λ _. ih) λ e.
    let le = ltb-false (first_below k t) k e in
    let old : (i : ℕ) → i < k → t i ≡ false = λ i l. ih i (lt_of_lt_of_le l le) in
    by_cond (λ r. (i : ℕ) → i < r → t i ≡ false) (t k) _ _ (λ _. old) λ miss i l. by_top l (λ q. rw q miss) (old i)

-- the first passes, if there is one
pub first_passes : (n : ℕ) (t : ℕ → Bool) → first_below n t < n → t (first_below n t) ≡ true
unfolding first_below first_step
first_passes zero t = λ l. none_below l
first_passes (suc k) t =
    let ih = first_passes k t in
    by_cond (λ r. r < suc k → t r ≡ true) (ltb (first_below k t) k) _ _ (λ e _. ih (ltb-true (first_below k t) k e)) λ _.
    by_cond (λ r. r < suc k → t r ≡ true) (t k) _ _ (λ hit _. hit) λ _ l. absurd (omega arith)

pub found : (n : ℕ) (t : ℕ → Bool) → first_below n t < n → First n t (first_below n t)
found n t l = record { below = l; passes = first_passes n t l; before = first_before n t }

-- a passing number is not before the first
pub first_least_lem : (n : ℕ) (t : ℕ → Bool) (i : ℕ) → t i ≡ true → first_below n t ≤ i
first_least_lem n t i h = by_less i (first_below n t) (λ l. absurd (clash h (first_before n t i l))) (λ l. l)

pub first_some : {n : ℕ} (t : ℕ → Bool) (i : ℕ) → i < n → t i ≡ true → first_below n t < n
first_some {n} t i l h = lt_of_le_of_lt (first_least_lem n t i h) l

pub first_unique : {n : ℕ} {t : ℕ → Bool} {r : ℕ} → First n t r → first_below n t ≡ r
first_unique {n} {t} {r} f =
    by_less (first_below n t) r
    (λ l. absurd (clash (first_passes n t (lt_of_lt_of_le l (omega arith))) (f.before (first_below n t) l)))
    (λ l. le_antisymm (first_least_lem n t r f.passes) l)

-- none found: all fail
pub first_none : (n : ℕ) (t : ℕ → Bool) → first_below n t ≡ n → (i : ℕ) → i < n → t i ≡ false
first_none n t e i l = first_before n t i (rw e l)

pub first_none_intro : (n : ℕ) (t : ℕ → Bool) → ((i : ℕ) → i < n → t i ≡ false) → first_below n t ≡ n
first_none_intro n t all =
    by_less (first_below n t) n (λ l. absurd (clash (first_passes n t l) (all _ l))) (λ l. le_antisymm (first_le n t) l)

-- the loop's answer: nothing before i passes, and i does
pub First-stop : {n i : ℕ} (t : ℕ → Bool) → first_below i t ≡ i → t i ≡ true → i < n → First n t i
First-stop {n} {i} t e h l = record { below = l; passes = h; before = first_none i t e }

pub first_stop : {n i : ℕ} (t : ℕ → Bool) → first_below i t ≡ i → t i ≡ true → i < n → first_below n t ≡ i
first_stop t e h l = first_unique (First-stop t e h l)

pub any_first : (n : ℕ) (t : ℕ → Bool) → any_below n t ≡ ltb (first_below n t) n
any_first n t =
    bool_eq (λ e. let r = any_elim n t e in lt-ltb _ n (first_some t r.index r.below r.passes))
    (λ e. let l = ltb-true (first_below n t) n e in any_intro t (first_below n t) l (first_passes n t l))

pub first_cong : (n : ℕ) {t u : ℕ → Bool} → ((i : ℕ) → i < n → t i ≡ u i) → first_below n t ≡ first_below n u
unfolding first_below
first_cong zero h = refl
first_cong (suc k) h = ap₂ (first_step k) (h k (le_refl _)) (first_cong k (lower h))

-- the first below k is the first below n too
pub first_on : {k n : ℕ} (t : ℕ → Bool) → k ≤ n → first_below k t < k → first_below n t ≡ first_below k t
first_on {k} {n} t h l = first_unique (record { below = omega arith; passes = first_passes k t l; before = first_before k t })

-- one number more passes
pub first_more : {n c : ℕ} (t : ℕ → Bool) → c < n → first_below n (λ d. t d || eqb d c) ≡ min c (first_below n t)
first_more {n} {c} t l =
    let r = first_below n t in
    by_less c r
    (λ h. let e : c ≡ min c r = omega arith in
    first_unique (record { below = l; passes = or_right (t c) (eqb_same c); before = λ i m. or_none_intro (first_before n t i (omega arith)) (ne_eqb i c (λ q. omega arith)) }) ∙ e)
    (λ h. let b : r < n = omega arith in let e : r ≡ min c r = omega arith in
    first_unique (record { below = b; passes = or_left (eqb r c) (first_passes n t b); before = λ i m. or_none_intro (first_before n t i m) (ne_eqb i c (λ q. omega arith)) }) ∙ e)
