use mathlib.Core.Path.{refl}
use native.Mathlib.Omega.{arith}
use Rattle.strands.proofs.Filling.{fill_sized, move_zero, move_next, move_end}
use Rattle.strands.proofs.move_bytes.Goals as goal

pub loop-k-init : goal.loop-k-init
loop-k-init c = move_zero _ _ _ _ c.requires.before_bound.0

pub bounds-joined-at : goal.bounds-joined-at
bounds-joined-at c = omega (arith, fill_sized c.loop-k.invariant.filled)

pub loop-k-preserved : goal.loop-k-preserved
loop-k-preserved c = move_next c.loop-k.invariant c.loop-k-test.true (record { is = refl; below = (c.type_inv.row c.loop-k.k).fits }) c.moved_byte.ensures

pub returns : goal.returns
returns c = move_end c.loop-k.invariant c.loop-k-test.false
