-- A number from 1 to a limit, as facts.
-- Assumes nothing.
use Prim.Native.Nat.{ℕ, ◌≤◌, ◌<◌}
use mathlib.Core.Bool.{false}
use mathlib.Core.Path.{◌≡◌}
use native.Mathlib.Omega.{arith}
use lib.Dec.{eqb}
use borrow.Author.Tests.{eqb-false, ltb-false, ne_eqb, le-ltb}
use Rattle.finite.proofs.Tests.{or_none, or_none_intro}
use Rattle.model.specs.Limits.{out_of_range}

pub range_facts : (limit k : ℕ) → out_of_range limit k ≡ false → (0 < k) × (k ≤ limit)
range_facts limit k e =
    let none = or_none (eqb k 0) _ e in
    let some : k ≡ 0 → ⊥ = eqb-false k 0 none.0 in
    (omega arith, ltb-false limit k none.1)

pub in_range : (limit k : ℕ) → 0 < k → k ≤ limit → out_of_range limit k ≡ false
in_range limit k some fit = or_none_intro (ne_eqb k 0 (omega arith)) (le-ltb limit k fit)
