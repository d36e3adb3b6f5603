-- `seeking::view_of` meets its contract.
use Prim.Native.Nat.{ℕ, ◌*◌, ◌^◌, ◌≤◌, ◌<◌}
use mathlib.Core.Path.{ap₂}
use native.Mathlib.Nat.{mul-le-mul}
use native.Mathlib.Omega.{arith}
use Rattle.model.specs.Limits.{max_weight}
use Rattle.seeking.proofs.view_of.Goals as goal
use Rattle.seeking.proofs.view_of.Goals.{After-difficult_weight-b}

product_fits : {x y : ℕ} → x ≤ max_weight → y ≤ max_weight → x * y < 2 ^ 32
product_fits h l = omega (arith, mul-le-mul h l)

easy : (c : After-difficult_weight-b) → c.easy_weight-a.result ≤ max_weight
easy c = let valid = c.requires.0 in omega (arith, c.easy_weight-a.ensures, valid.easier, valid.weight_fits)

difficult : (c : After-difficult_weight-b) → c.difficult_weight-b.result ≤ max_weight
difficult c = omega (arith, c.difficult_weight-b.ensures, c.requires.0.weight_fits)

pub overflow_mul-result : goal.overflow_mul-result
overflow_mul-result c = let at = (goal.at.overflow_mul-result c).After-difficult_weight-b in record { fits = product_fits (easy at) (easy at) }

pub overflow_mul-result-2 : goal.overflow_mul-result-2
overflow_mul-result-2 c = let at = (goal.at.overflow_mul-result-2 c).After-difficult_weight-b in record { fits = product_fits (easy at) (difficult at) }

pub overflow_mul-result-3 : goal.overflow_mul-result-3
overflow_mul-result-3 c = let at = (goal.at.overflow_mul-result-3 c).After-difficult_weight-b in record { fits = product_fits (difficult at) (difficult at) }

pub returns : goal.returns
returns c =
    let a = c.easy_weight-a.ensures in
    let b = c.difficult_weight-b.ensures in
    record { sides = rw c.requires.1 at c.by_group-sides.ensures; low_is = ap₂ ◌*◌ a a; mid_is = ap₂ ◌*◌ a b; top_is = ap₂ ◌*◌ b b }
