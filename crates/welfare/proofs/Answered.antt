-- Refusals and other answers: a refusal comes before what was judged, and any other answer is what was judged.
-- Assumes nothing.
use Prim.Native.Nat.{ℕ}
use mathlib.Core.Path.{◌≡◌, sym, ◌∙◌}
use native.Mathlib.Omega.{arith}
use lib.Dec.{eqb}
use borrow.Author.Tests.{eqb-true, ne_eqb}
use Rattle.finite.proofs.Tests.{by_test}
use Rattle.model.specs.Replies.{Reply, refused, accepted}
use Rattle.model.specs.Verdicts.{unless_refused}

pub unless_refused_lem : {k : ℕ} (answer : Reply) → (k ≡ 0 → ⊥) → unless_refused k answer ≡ refused k
unfolding unless_refused
unless_refused_lem {k} answer h = rw (ne_eqb k 0 h)

-- code's number r stands for the refusal
pub refused_told : {k r : ℕ} (answer : Reply) → r ≡ k → (r ≡ 0 → ⊥) → refused r ≡ unless_refused k answer
refused_told answer e h = rw e (sym (unless_refused_lem answer (λ z. h (e ∙ z))))

pub not_refused_lem : (k : ℕ) (answer : Reply) {reply : Reply} → ((j : ℕ) → refused j ≡ reply → ⊥) → unless_refused k answer ≡ reply → (k ≡ 0) × (answer ≡ reply)
unfolding unless_refused
not_refused_lem k answer other e =
    by_test (eqb k 0)
    (λ h. (eqb-true k 0 h, rw h at e))
    (λ h. absurd (other k (rw h at e)))

pub not_accepted : (k : ℕ) → refused k ≡ accepted → ⊥
not_accepted k e = let z : ◌≡◌ {A = ℕ} 0 1 = cc in omega arith
