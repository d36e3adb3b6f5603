use Prim.Native.Nat.{◌<◌}
use mathlib.Core.Path.{◌≡◌, sym, ◌∙◌}
use native.Mathlib.Omega.{arith}
use Rattle.model.specs.Sheet.{chores_of}
use Rattle.evenness.proofs.Counts.{mark_below, counted_none, few-held, counted_own, counted_other, off_counted}
use Rattle.evenness.proofs.taken_off.Goals as goal
use Rattle.evenness.proofs.taken_off.Goals.{else-owner-i, then-owner-i}
use Rattle.std.proofs.lemmas.Grind.{common_steps}

pub loop-c-init : goal.loop-c-init
loop-c-init c = (omega arith, counted_none _ _ _)

pub overflow_add-held : goal.overflow_add-held
overflow_add-held c =
    let g = c.requires.given in
    omega (arith, few-held _ _ _ c.loop-c.invariant.1, c.chores-c-end.ensures.is, g.valid.chores_fit)

pub loop-c-preserved : goal.loop-c-preserved
loop-c-preserved c =
    let is = c.owner.ensures.is in
    let so_far = c.loop-c.invariant.1 in
    elim c.if-owner-i.branch [
      | then-owner-i w ↦ (omega (arith, mark_below _ _ _ w.mark.ensures), rw (w.held-is, w.difficult-is) (counted_own _ _ _ so_far (sym is ∙ w.if-owner-i.true) w.mark.ensures))
      | else-owner-i w ↦ (omega arith, rw (w.held-is, w.difficult-is) (counted_other _ _ _ so_far (λ q. w.if-owner-i.false (is ∙ q))))
    ]

pub returns : goal.returns
returns c =
    let loop = c.loop-c in
    let g = c.requires.given in
    let whole : loop.difficult < c.args.slack → loop.c ≡ chores_of c.args.sheet.now = λ few. grind (arith, common_steps) in
    rw (c.difficult_weight-b.ensures, c.easy_weight-a.ensures)
    (off_counted g _ loop.invariant.1 (omega (arith, c.chores-c-end.ensures.is)) loop.invariant.0 whole (grind (arith, common_steps)))
