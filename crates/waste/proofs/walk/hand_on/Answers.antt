use Prim.Native.Nat.{◌<◌}
use native.Mathlib.Omega.{arith}
use Rattle.model.specs.Sheet.{agents_of, chores_of}
use Rattle.waste.proofs.Walking.{passed_some, passed_chore, taker_some, passed_taker, passed_on}
use Rattle.waste.proofs.walk.hand_on.Goals as goal
use Rattle.waste.proofs.walk.hand_on.Goals.{After-unwrap-e, After-unwrap-g}

-- the chore that goes, and who takes it
chore : (c : After-unwrap-e) → c.unwrap-e.result < chores_of c.args.sheet.now
chore c = let p = c.requires in passed_chore p.walkable.given p.walkable.rings p.away c.first_passable.ensures c.unwrap-e.ensures

taker : (c : After-unwrap-g) → c.unwrap-g.result < agents_of c.args.sheet.now
taker c =
    let p = c.requires in
    passed_taker p.walkable.given p.walkable.rings p.away c.first_passable.ensures c.unwrap-e.ensures c.first_taker.ensures c.unwrap-g.ensures

pub unwrap-e-requires : goal.unwrap-e-requires
unwrap-e-requires c = let p = c.requires in passed_some p.walkable.given p.walkable.rings p.away c.first_passable.ensures

pub first_taker-requires : goal.first_taker-requires
first_taker-requires c = chore (goal.at.first_taker-requires c).After-unwrap-e

pub unwrap-g-requires : goal.unwrap-g-requires
unwrap-g-requires c =
    let p = c.requires in
    taker_some p.walkable.given p.walkable.rings p.away c.first_passable.ensures c.unwrap-e.ensures c.first_taker.ensures

pub overflow_add-list : goal.overflow_add-list
overflow_add-list c = omega (arith, taker (goal.at.overflow_add-list c).After-unwrap-g)

pub overflow_cast-list : goal.overflow_cast-list
overflow_cast-list c = omega (arith, taker (goal.at.overflow_cast-list c).After-unwrap-g, c.requires.walkable.given.valid.agents_fit)

pub bounds-list-e : goal.bounds-list-e
bounds-list-e c = omega (arith, chore (goal.at.bounds-list-e c).After-unwrap-e, c.requires.walkable.long)

pub returns : goal.returns
returns c =
    let p = c.requires in
    passed_on p.walkable.given p.walkable.rings p.away c.first_passable.ensures c.unwrap-e.ensures c.first_taker.ensures c.unwrap-g.ensures c.args.list.now
