-- The costs of the chores whose marks are in one byte.
-- Assumes nothing.
use Prim.Native.Nat.{ℕ, ◌+◌, ◌*◌, ◌-◌, ◌/◌, ◌<◌}
use mathlib.Core.Bool.{cond}
use mathlib.Core.List.{List}
use mathlib.Core.Path.{◌≡◌, sym, ap, ◌∙◌}
use native.Mathlib.Omega.{arith}
use lib.Dec.{eqb}
use lib.ListN.{get_or}
use Rattle.finite.specs.Bits.{bit}
use Rattle.model.specs.Instance.{cost}
use Rattle.model.specs.Sheet.{row_of, is_difficult, as_marked}
use Rattle.sheet.proofs.Marks.{mark_in_row}
use Rattle.given.specs.Given.{Weighed}
use Rattle.given.proofs.Costs.{cost_read}
use Rattle.evenness.specs.Adding.{Adding}

module _ {s owners : List ℕ} {a b i first count : ℕ} (A : Adding s owners i first count) (weighed : Weighed s a b) where
  -- the mark at place j of the byte, and what that costs
  module _ (j : ℕ) (l : j < count) {byte mark : ℕ} (e : byte ≡ get_or (row_of s i) (first / 8) 0) (read : mark ≡ cond (bit byte (7 - j)) 1 0) where
    is_mark : cond (is_difficult s i (first + j)) 1 0 ≡ mark
    is_mark =
        let here : first + j ≡ 8 * (first / 8) + j = omega (arith, A.begins) in
        ap (λ t. cond t 1 0) (ap (is_difficult s i) here ∙ mark_in_row s i (first / 8) j (omega (arith, A.one_byte)) ∙ ap (λ x. bit x (7 - j)) (sym e)) ∙ sym read

    pub byte_cost : {r : ℕ} → r ≡ cond (eqb mark 1) b a → r ≡ cost (as_marked s) i (first + j)
    byte_cost e = cost_read weighed i (first + j) (rw is_mark e)
