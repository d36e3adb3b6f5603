-- The test for waste is exact.
-- Assumes nothing.
use Prim.Native.Nat.{ℕ, ◌<◌}
use mathlib.Core.Path.{◌≡◌, sym, ◌∙◌}
use native.Mathlib.Nat.{le_of_lt}
use Rattle.finite.proofs.Tests.{by_test}
use Rattle.model.specs.Instance.{Instance}
use Rattle.model.specs.Fairness.{dominated}
use Rattle.welfare.specs.Waste.{waste_test}
use Rattle.welfare.proofs.Allocations.{dominated_intro, undominated}
use Rattle.welfare.proofs.Wasteless.{wasteless}
use Rattle.welfare.proofs.Walk.{waste_dominated}

-- a list is wasteful exactly when some chore is difficult for its owner and easy for an agent that is connected to a burdened one
pub waste_exact : (I : Instance) (x : ℕ → ℕ) → 0 < I.a → I.a < I.b → ((c : ℕ) → c < I.m → x c < I.n) → dominated I x ≡ waste_test I x
waste_exact I x pos lt owner =
    by_test (waste_test I x)
    (λ e. dominated_intro I x (waste_dominated I x lt owner e) ∙ sym e)
    (λ e. undominated I x (wasteless I x (record { easy_positive_lem = pos; easy_least = le_of_lt lt }) owner e) ∙ sym e)
