use Rattle.std.proofs.Common.{arith}
use Rattle.firsts.proofs.Keeping.{keeping_none, keeping_below, keeping_next, keeping_all}
use Rattle.firsts.proofs.rows.not_before.Goals as goal

pub loop-t-init : goal.loop-t-init
loop-t-init c = rw c.into_iter-t-iterator.ensures.into_iter_gives (keeping_none _ _)

pub bounds-first-w : goal.bounds-first-w
bounds-first-w c =
    let below = keeping_below c.requires.0.traits c.loop-t.invariant c.in-Some.ensures.steps in
    omega (arith, below, c.requires.0.agent, c.requires.0.first_sized)

pub loop-t-preserved : goal.loop-t-preserved
loop-t-preserved c = rw c.late.ensures (keeping_next c.requires.0.traits c.loop-t.invariant c.in-Some.ensures.steps)

pub returns : goal.returns
returns c = keeping_all (rw c.in-None.ensures.steps.0 at c.loop-t.invariant)
