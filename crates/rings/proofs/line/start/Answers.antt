use Prim.Native.Nat.{◌<◌}
use mathlib.Core.Path.{refl, ◌∙◌}
use native.Mathlib.Omega.{arith}
use lib.ListN.{length-set}
use borrow.Author.Tests.{eq-eqb, ne_eqb}
use Rattle.model.specs.Limits.{max_agents}
use Rattle.rings.proofs.Started.{filled_most, started_none, started_skip, started_take}
use Rattle.rings.proofs.line.start.Goals as goal
use Rattle.rings.proofs.line.start.Goals.{else-sums-i, then-sums-i}

pub loop-i-init : goal.loop-i-init
loop-i-init c = started_none c.requires.2 refl

pub take_place-requires : goal.take_place-requires
take_place-requires c =
    let loop = c.loop-i in
    (length-set loop.scratch loop.i 0 ∙ loop.invariant.filled.size, omega (arith, filled_most loop.invariant.filled), omega (arith, c.requires.0))

pub overflow_add-end : goal.overflow_add-end
overflow_add-end c = omega (arith, filled_most c.loop-i.invariant.filled, c.requires.0)

pub loop-i-preserved : goal.loop-i-preserved
loop-i-preserved c =
    let loop = c.loop-i in
    let few : loop.i < max_agents = omega (arith, c.requires.0) in
    elim c.if-sums-i.branch [
      | then-sums-i w ↦ rw (w.scratch-is, w.end-is, w.take_place.ensures) (started_take few loop.invariant (eq-eqb _ _ w.if-sums-i.true))
      | else-sums-i w ↦ rw (w.scratch-is, w.end-is) (started_skip few loop.invariant (ne_eqb _ _ w.if-sums-i.false))
    ]
