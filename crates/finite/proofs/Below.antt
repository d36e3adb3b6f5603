-- Cases on a number below a bound, and on two numbers.
-- Assumes nothing.
use Prim.Native.Nat.{ℕ, suc, ◌≤◌, ◌<◌}
use mathlib.Core.Bool.{not}
use mathlib.Core.Path.{◌≡◌}
use native.Mathlib.Nat.{not-suc-le-zero, le_step}
use native.Mathlib.Omega.{arith}
use lib.Dec.{leb, ltb, eqb}
use borrow.Author.Tests.{eqb-true, eqb-false, ltb-true, ltb-false, lt-ltb, le-ltb, le-leb, lt-leb}
use Rattle.finite.proofs.Tests.{by_test}

-- nothing is below 0
pub none_below {ℓ} : {A : Type ℓ} {i : ℕ} → i < 0 → A
none_below h = absurd (not-suc-le-zero h)

-- a number below k + 1 is k or below k
pub by_top {ℓ} : {A : Type ℓ} {i k : ℕ} → i < suc k → (i ≡ k → A) → (i < k → A) → A
by_top {i = i} {k} h top rest =
    by_test (eqb i k) (λ e. top (eqb-true i k e)) λ e. let n : i ≡ k → ⊥ = eqb-false i k e in rest (omega arith)

-- what holds below k + 1 holds below k
pub lower {ℓ} : {P : ℕ → Type ℓ} {k : ℕ} → ((i : ℕ) → i < suc k → P i) → (i : ℕ) → i < k → P i
lower all i h = all i (le_step h)

pub by_less {ℓ} : {A : Type ℓ} (a b : ℕ) → (a < b → A) → (b ≤ a → A) → A
by_less a b less more = by_test (ltb a b) (λ e. less (ltb-true a b e)) (λ e. more (ltb-false a b e))

-- to be less is not to be at least
pub less_is : (a b : ℕ) → ltb a b ≡ not (leb b a)
less_is a b =
    by_less a b
    (λ l. rw (lt-ltb a b l, lt-leb b a l))
    (λ l. rw (le-ltb a b l, le-leb b a l))

pub by_same {ℓ} : {A : Type ℓ} (a b : ℕ) → (a ≡ b → A) → ((a ≡ b → ⊥) → A) → A
by_same a b same other = by_test (eqb a b) (λ e. same (eqb-true a b e)) (λ e. other (eqb-false a b e))
