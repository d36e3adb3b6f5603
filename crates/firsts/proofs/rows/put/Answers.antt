use Rattle.firsts.proofs.Placing.{placing_none, placing_room, placing-next, placed}
use Rattle.firsts.proofs.rows.put.Goals as goal

pub loop-t-init : goal.loop-t-init
loop-t-init c = rw c.into_iter-t-iterator.ensures.into_iter_gives (placing_none _ _ _ _)

pub bounds-first-w : goal.bounds-first-w
bounds-first-w c = placing_room c.requires.0 c.loop-t.invariant c.in-Some.ensures.steps

pub loop-t-preserved : goal.loop-t-preserved
loop-t-preserved c = placing-next c.requires.0 c.loop-t.invariant c.in-Some.ensures.steps

pub returns : goal.returns
returns c = placed (rw c.in-None.ensures.steps.0 at c.loop-t.invariant)
