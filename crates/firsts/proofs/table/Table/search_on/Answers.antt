use Rattle.std.proofs.Common.{◌≤◌, ◌<◌, length, refl, arith}
use borrow.Author.Tests.{eq-eqb, ne_eqb}
use Rattle.model.specs.Instance.{owner_of}
use Rattle.model.specs.Fairness.{owns}
use Rattle.firsts.proofs.Searching.{searched_none, searched_past, searched-next, searched_all}
use Rattle.firsts.proofs.table.Table.search_on.Goals as goal
use Rattle.firsts.proofs.table.Table.search_on.Goals.{else-owners-k, then-owners-k}

pub loop-k-init : goal.loop-k-init
loop-k-init c = record { row = searched_none _ _ _ _ _ c.requires.2; sets = refl }

pub loop-k-preserved : goal.loop-k-preserved
unfolding owns owner_of
loop-k-preserved c =
    let later : c.args.c < c.loop-k.k = omega arith in
    let inv = c.loop-k.invariant in
    elim c.if-owners-k.branch [
      | then-owners-k w ↦
          rw (w.self-is, w.left-is) (record { row = searched-next _ _ _ _ later inv.row (eq-eqb _ _ w.if-owners-k.true) w.traits.ensures w.put.ensures; sets = inv.sets })
      | else-owners-k w ↦ rw (w.self-is, w.left-is) (record { row = searched_past _ _ _ _ later inv.row (ne_eqb _ _ w.if-owners-k.false); sets = inv.sets })
    ]

-- every missing trait has been found
pub returns-then-left-eq0-clause-row : goal.returns-then-left-eq0-clause-row
returns-then-left-eq0-clause-row c =
    let loop = c.loop-k in
    let few : loop.k ≤ length c.args.owners.now = omega arith in
    rw c.if-left-eq0.true (searched_all _ _ _ _ few (rw c.if-left-eq0.true at loop.invariant.row))
