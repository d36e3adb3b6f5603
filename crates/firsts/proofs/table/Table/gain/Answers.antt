use Rattle.std.proofs.Common.{refl, arith, rules}
use Rattle.firsts.specs.Table.{Spot}
use Rattle.firsts.proofs.Placing.{placing_none, placing_below, placing-next, gained}
use Rattle.firsts.proofs.table.Table.gain.Goals as goal
use Rattle.firsts.proofs.table.Table.gain.Goals.{At-loop-t}

spot : (c : At-loop-t) → Spot c.args.self.now.first c.args.w c.args.word
spot c = record { first_sized = search rules; agent = c.requires.0; traits = c.requires.1 }

pub loop-t-init : goal.loop-t-init
loop-t-init c = record { row = rw c.into_iter-t-iterator.ensures.into_iter_gives (placing_none _ _ _ _); sets = refl }

pub bounds-self-w : goal.bounds-self-w
bounds-self-w c = omega (arith, placing_below (spot (goal.at.bounds-self-w c).At-loop-t) c.loop-t.invariant.row c.in-Some.ensures.steps, c.requires.0)

pub bounds-self-w-in-loop-t : goal.bounds-self-w-in-loop-t
bounds-self-w-in-loop-t c = omega (arith, placing_below (spot (goal.at.bounds-self-w-in-loop-t c).At-loop-t) c.loop-t.invariant.row c.in-Some.ensures.steps, c.requires.0)

pub loop-t-preserved : goal.loop-t-preserved
loop-t-preserved c =
    let inv = c.loop-t.invariant in
    let spot = spot (goal.at.loop-t-preserved c).At-loop-t in
    record { row = rw c.earlier.ensures (placing-next spot inv.row c.in-Some.ensures.steps); sets = inv.sets }

pub returns : goal.returns
returns c =
    let inv = c.loop-t.invariant in
    rw inv.sets (gained _ (rw c.in-None.ensures.steps.0 at inv.row))
