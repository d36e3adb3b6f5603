-- Laws of refusals in a row: the first that is not 0 is the answer.
use Prim.Native.Nat.{ℕ, suc}
use mathlib.Core.Bool.{Bool, true, false}
use mathlib.Core.Path.{◌≡◌, refl, sym, ◌∙◌}
use native.Mathlib.Omega.{arith}
use lib.Dec.{eqb}
use borrow.Author.Tests.{eqb-true, eqb-false, eq-eqb, ne_eqb}
use Rattle.finite.proofs.Tests.{by_test}
use Rattle.model.specs.Refusals.{◌or_else◌, ◌when◌}

-- where the first turns nothing down, the second decides
pub or_else_next : {a : ℕ} (b : ℕ) → a ≡ 0 → a or_else b ≡ b
unfolding ◌or_else◌
or_else_next {a} b e = rw (eq-eqb a 0 e)

-- where the first turns down, it decides
pub or_else_first : {a : ℕ} (b : ℕ) → (a ≡ 0 → ⊥) → a or_else b ≡ a
unfolding ◌or_else◌
or_else_first {a} b h = rw (ne_eqb a 0 h)

-- cases: the first turns down, or the second decides
pub or_else_cases {ℓ} : (P : ℕ → Type ℓ) (a b : ℕ) → ((a ≡ 0 → ⊥) → P a) → (a ≡ 0 → P b) → P (a or_else b)
or_else_cases P a b first next =
    by_test (eqb a 0) (λ e. let h = eqb-true a 0 e in rw (or_else_next b h) (next h))
    (λ e. let h = eqb-false a 0 e in rw (or_else_first b h) (first h))

-- nothing is turned down
pub or_else_zero : (a b : ℕ) → a or_else b ≡ 0 → (a ≡ 0) × (b ≡ 0)
or_else_zero a b = or_else_cases (λ r. r ≡ 0 → (a ≡ 0) × (b ≡ 0)) a b (λ h e. absurd (h e)) (λ h e. (h, e))

pub or_else_none : {a b : ℕ} → a ≡ 0 → b ≡ 0 → a or_else b ≡ 0
or_else_none {a} {b} h k = or_else_next b h ∙ k

-- refusals in a row may be taken together from either end
pub or_else_assoc : (a b c : ℕ) → (a or_else b) or_else c ≡ a or_else b or_else c
or_else_assoc a b c =
    or_else_cases (λ r. r or_else c ≡ a or_else b or_else c) a b
    (λ h. or_else_first c h ∙ sym (or_else_first _ h))
    (λ h. sym (or_else_next _ h))

-- a number that is not returned: its condition fails
pub when_none : (t : Bool) (k : ℕ) → suc k when t ≡ 0 → t ≡ false
when_none true k e = absurd (omega arith)
when_none false k e = refl

-- .. and nothing further on turns down
pub peel : (t : Bool) (k b : ℕ) → suc k when t or_else b ≡ 0 → (t ≡ false) × (b ≡ 0)
peel t k b e =
    let both = or_else_zero (suc k when t) b e in
    (when_none t k both.0, both.1)

-- r is the first number, of an answer of the code: where it is not 0, it is the number of both
pub or_else_stop : {a r : ℕ} (b : ℕ) → r ≡ a → (r ≡ 0 → ⊥) → r ≡ a or_else b
or_else_stop {a} {r} b e h = e ∙ sym (or_else_first b (λ z. h (e ∙ z)))

-- r and q are the numbers of two answers of the code: where r is 0, q is the number of both
pub or_else_go : {a b r q : ℕ} → r ≡ a → r ≡ 0 → q ≡ b → q ≡ a or_else b
or_else_go {a} {b} e z k = k ∙ sym (or_else_next b (sym e ∙ z))
