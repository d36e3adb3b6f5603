-- How many numbers are lent for prices in bytes.
-- Assumes nothing.
use Prim.Native.Nat.{ℕ, ◌≤◌, ◌<◌, min}
use mathlib.Core.Path.{◌≡◌}
use native.Mathlib.Omega.{arith}
use borrow.Author.Tests.{lt-ltb, le-ltb}
use Rattle.finite.proofs.Below.{by_less}
use Rattle.model.specs.Refusals.{lent_refusal}

-- as many numbers as bytes hold, but no more than can be needed, are enough just where all are
pub lent_same : {most k : ℕ} (m n : ℕ) → m ≤ most → k ≡ min n most → lent_refusal m k ≡ lent_refusal m n
unfolding lent_refusal
lent_same {most} {k} m n fit e =
    by_less n m
    (λ l. let less : k < m = omega arith in rw (lt-ltb k m less, lt-ltb n m l))
    (λ l. let more : m ≤ k = omega arith in rw (le-ltb k m more, le-ltb n m l))
