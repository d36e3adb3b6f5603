use Prim.Native.Nat.{◌+◌, ◌-◌, ◌*◌, ◌%◌}
use mathlib.Core.Path.{◌≡◌}
use native.Mathlib.Omega.{arith}
use Rattle.finite.proofs.Sweeps.{sums_none}
use Rattle.model.specs.Sheet.{chores_of, as_marked}
use Rattle.model.specs.Fairness.{owns, total, cost_to}
use Rattle.evenness.proofs.add_costs.Goals as goal

pub loop-k-init : goal.loop-k-init
unfolding total owns
loop-k-init c = sums_none _ _ c.requires.sums_value

pub returns-then-rest-gt0 : goal.returns-then-rest-gt0
unfolding cost_to as_marked
returns-then-rest-gt0 c =
    let all : c.chores-m.result - c.chores-m.result % 8 + c.chores-m.result % 8 ≡ chores_of c.args.sheet.now = omega (arith, c.chores-m.ensures.is) in
    rw all at c.add_byte-then-rest-gt0.ensures

pub returns-else-rest-gt0 : goal.returns-else-rest-gt0
unfolding cost_to as_marked
returns-else-rest-gt0 c =
    let all : 8 * c.loop-k.k ≡ chores_of c.args.sheet.now = omega (arith, c.chores-m.ensures.is) in
    rw all at c.loop-k.invariant
