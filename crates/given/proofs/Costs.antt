-- Laws of a mark and of what it costs: a mark is 0 or 1, and a chore costs what its mark does.
-- Assumes nothing.
use Prim.Native.Nat.{ℕ, ◌≤◌, ◌<◌}
use mathlib.Core.Bool.{Bool, cond}
use mathlib.Core.List.{List}
use mathlib.Core.Path.{◌≡◌, sym}
use native.Mathlib.Nat.{le_of_lt, le_trans}
use native.Mathlib.Omega.{arith}
use lib.Dec.{eqb}
use Rattle.finite.proofs.Tests.{cond-not}
use Rattle.finite.proofs.Below.{by_top}
use Rattle.finite.proofs.Packed.{digit_below, digit_is}
use Rattle.model.specs.Limits.{max_weight}
use Rattle.model.specs.Instance.{cost}
use Rattle.model.specs.Sheet.{easy_weight, difficult_weight, is_difficult, marks_easy, as_marked}
use Rattle.welfare.proofs.Costs.{cost_at_most}
use Rattle.given.specs.Given.{Weighed, Marked}

module _ {x : ℕ} (either : x < 2) where
  pub by_mark {ℓ} : {A : Type ℓ} → (x ≡ 0 → A) → (x ≡ 1 → A) → A
  by_mark easy difficult = by_top either difficult (λ l. let e : x ≡ 0 = omega arith in easy e)

  -- what is a for 0 and b for 1 is the cost of either mark
  pub either_cost : {a b r : ℕ} → (x ≡ 0 → r ≡ a) → (x ≡ 1 → r ≡ b) → r ≡ cond (eqb x 1) b a
  either_cost easy difficult = by_mark (λ e. rw e (easy e)) (λ e. rw e (difficult e))

pub weighed_easier : {s : List ℕ} {a b : ℕ} → Weighed s a b → a ≤ b
weighed_easier w = omega (arith, w.easy, w.difficult, w.valid.easier)

-- a mark that was read
pub read_marked : {a b mark : ℕ} → a ≤ b → (t : Bool) → mark ≡ cond t 1 0 → Marked a b mark
read_marked easier t read = record { easier = easier; either = rw read (digit_below t) }

module _ {s : List ℕ} {a b : ℕ} (w : Weighed s a b) (i c : ℕ) where
  -- a chore costs what its mark does
  pub cost_read : {r : ℕ} → r ≡ cond (eqb (cond (is_difficult s i c) 1 0) 1) b a → r ≡ cost (as_marked s) i c
  unfolding cost as_marked marks_easy
  cost_read e =
      rw (e, digit_is (is_difficult s i c), w.easy, w.difficult) (sym (cond-not (is_difficult s i c) (easy_weight s) (difficult_weight s)))

  pub cost_fits : cost (as_marked s) i c ≤ max_weight
  unfolding as_marked
  cost_fits = le_trans (cost_at_most (as_marked s) i c (le_of_lt w.valid.easier)) w.valid.weight_fits
