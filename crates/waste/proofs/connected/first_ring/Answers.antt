use Prim.Native.Nat.{◌<◌}
use mathlib.Core.Path.{◌≡◌, sym, ◌∙◌}
use mathlib.Core.Bool.{cond}
use native.Mathlib.Omega.{arith}
use lib.ListN.{length, length-set}
use Rattle.finite.proofs.Tests.{cond_true, cond_false}
use Rattle.finite.proofs.Lists.{fill_zero, fill_next, fill_at}
use Rattle.model.specs.Instance.{owner_of}
use Rattle.model.specs.Sheet.{as_marked}
use Rattle.welfare.specs.Waste.{burdened}
use Rattle.given.proofs.Burdens.{burdened_found}
use Rattle.waste.specs.Rings.{no_distance}
use Rattle.waste.proofs.Rings.{rings_first}
use Rattle.waste.proofs.connected.first_ring.Goals as goal
use Rattle.waste.proofs.connected.first_ring.Goals.{then-is_some, else-is_some}

pub loop-i-init : goal.loop-i-init
loop-i-init c = (c.requires.distances_len, fill_zero _ c.args.distances.now)

pub loop-i-preserved : goal.loop-i-preserved
loop-i-preserved c =
    let inv = c.loop-i.invariant in
    let searched = burdened_found _ _ c.loop-i.i c.first_burden.ensures in
    let value : c.if-is_some.distances ≡ cond (burdened (as_marked c.args.sheet.now) (owner_of c.args.owners.now) c.loop-i.i) 0 no_distance =
    elim c.if-is_some.branch [
      | then-is_some w ↦ w.distances-is ∙ sym (cond_true 0 no_distance (sym (w.if-is_some.ensures ∙ searched)))
      | else-is_some w ↦ w.distances-is ∙ sym (cond_false 0 no_distance (sym (w.if-is_some.ensures ∙ searched)))
    ] in
    let inside : c.loop-i.i < length c.loop-i.distances = omega (arith, inv.0, c.agents-i-end.ensures.is, c.requires.given.valid.agents_fit) in
    (simp length-set inv.0, fill_next _ c.loop-i.distances inside value inv.1)

pub returns : goal.returns
unfolding as_marked
returns c =
    let inv = c.loop-i.invariant in
    rings_first _ _ inv.0 (λ i l. fill_at _ c.loop-i.distances i 0 (omega (arith, c.agents-i-end.ensures.is)) inv.1)
