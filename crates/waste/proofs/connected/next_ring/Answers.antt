use Prim.Native.Nat.{◌+◌}
use mathlib.Core.Path.{◌≡◌, ◌∙◌}
use native.Mathlib.Omega.{arith}
use borrow.Author.Tests.{eq-eqb, ne_eqb}
use Rattle.finite.proofs.Search.{any_zero}
use Rattle.model.specs.Instance.{owner_of}
use Rattle.model.specs.Sheet.{agents_of, as_marked}
use Rattle.waste.specs.Rings.{Spread}
use Rattle.waste.proofs.Rings.{ring_link, spread_none, spread_cong, spread_next, spread_ring, ring_link_on, ring_link_off, rings_next}
use Rattle.waste.proofs.connected.next_ring.Goals as goal
use Rattle.waste.proofs.connected.next_ring.Goals.{else-distances-j, then-distances-j}

pub loop-j-init : goal.loop-j-init
loop-j-init c = spread_none c.requires.rings.size (λ i l. any_zero _)

pub loop-j-preserved : goal.loop-j-preserved
loop-j-preserved c =
    let a = c.args in
    let p = c.requires in
    let j = c.loop-j.j in
    let link = ring_link (as_marked a.sheet.now) (owner_of a.owners.now) a.distances.now a.t in
    let at = spread_ring (omega (arith, p.given.valid.agents_fit)) c.loop-j.invariant j (omega (arith, c.agents-j-end.ensures.is)) in
    let agent : Spread (agents_of a.sheet.now) (a.t + 1) (λ i. link i j) c.loop-j.distances c.if-distances-j.distances =
    elim c.if-distances-j.branch [
      | then-distances-j w ↦ rw w.distances-is (spread_cong (λ i l. ring_link_on _ _ _ _ _ _ (at ∙ eq-eqb _ _ w.if-distances-j.true)) w.spread_from.ensures)
      | else-distances-j w ↦ rw w.distances-is (spread_none c.loop-j.invariant.size (λ i l. ring_link_off _ _ _ _ _ _ (at ∙ ne_eqb _ _ w.if-distances-j.false)))
    ] in
    spread_next (λ e. omega (arith, p.given.valid.agents_fit)) link c.loop-j.invariant agent

pub returns : goal.returns
unfolding as_marked
returns c =
    let p = c.requires in
    let done : c.loop-j.j ≡ agents_of c.args.sheet.now = omega (arith, c.agents-j-end.ensures.is) in
    rings_next p.rings (omega (arith, p.given.valid.agents_fit)) (rw done at c.loop-j.invariant)
