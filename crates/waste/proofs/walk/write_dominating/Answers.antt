use Prim.Native.Nat.{◌<◌}
use mathlib.Core.Path.{◌≡◌}
use native.Mathlib.Omega.{arith}
use lib.ListN.{get_or}
use Rattle.model.specs.Sheet.{agents_of}
use Rattle.given.proofs.Given.{owner_below}
use Rattle.waste.proofs.Walking.{way_start, way_here, way_away, way_next, way_burden, way_end, shown_dominating}
use Rattle.waste.proofs.walk.write_dominating.Goals as goal

pub loop-h-init : goal.loop-h-init
loop-h-init c =
    let p = c.requires in
    rw (c.copy_bytes.ensures, c.chores.ensures.is) (way_start p.walkable.given p.walkable.rings p.wasting.chore p.wasting.hard p.wasting p.walkable.long)

pub bounds-distances-h : goal.bounds-distances-h
bounds-distances-h c =
    let p = c.requires in
    omega (arith, way_here p.walkable.given p.walkable.rings p.wasting.chore p.wasting.hard c.loop-h.invariant, p.walkable.given.valid.agents_fit)

pub hand_on-h-requires-clause-away : goal.hand_on-h-requires-clause-away
hand_on-h-requires-clause-away c =
    let p = c.requires in
    way_away p.walkable.given p.walkable.rings p.wasting.chore p.wasting.hard c.loop-h.invariant c.loop-h-test.true

pub loop-h-preserved : goal.loop-h-preserved
loop-h-preserved c =
    let p = c.requires in
    way_next p.walkable.given p.walkable.rings p.wasting.chore p.wasting.hard c.loop-h.invariant c.hand_on-h.ensures

pub relieve-requires : goal.relieve-requires
relieve-requires c =
    let owner : c.owner-i.result < agents_of c.args.sheet.now = rw c.owner-i.ensures.is (owner_below c.requires.walkable.given _ c.requires.wasting.chore) in
    let p = c.requires in
    let inv = c.loop-h.invariant in
    let g = p.walkable.given in
    let arrived : get_or c.args.distances.now c.loop-h.h 0 ≡ 0 = omega (arith, c.loop-h-test.false) in
    record {
      given = g;
      taker = owner;
      here = way_here g p.walkable.rings p.wasting.chore p.wasting.hard inv;
      burden = way_burden g p.walkable.rings p.wasting.chore p.wasting.hard inv arrived;
      long = inv.long;
    }

pub returns : goal.returns
returns c =
    let p = c.requires in
    let g = p.walkable.given in
    let inv = c.loop-h.invariant in
    let arrived : get_or c.args.distances.now c.loop-h.h 0 ≡ 0 = omega (arith, c.loop-h-test.false) in
    shown_dominating (way_end g p.walkable.rings p.wasting.chore p.wasting.hard inv arrived c.owner-i.ensures.is c.relieve.ensures)
