use Rattle.std.proofs.Common.{◌≡◌, ap, ◌∙◌, arith, Some, None, Ok, Err}
use Rattle.model.specs.Limits.{max_sheets}
use Rattle.cresults.proofs.Filling.{kept, told_none, told_next, all_told}
use Rattle.cresults.proofs.tell.Goals as goal
use Rattle.cresults.proofs.tell.Goals.{in-None, in-Some-Err, in-Some-Ok}

pub loop-j-init : goal.loop-j-init
loop-j-init c = told_none

pub loop-j-preserved : goal.loop-j-preserved
loop-j-preserved c =
    let j = c.loop-j.j in
    let next = told_next c.told-refusals c.told-moves c.told-cuts c.told-firsts c.loop-j.invariant c.loop-j-test.true in
    elim c.match-sheet.branch [
      | in-None w ↦ next None w.in-None.is (kept j w.refusals-is) (kept j w.moves-is) (kept j w.cuts-is) (kept j w.firsts-is)
      | in-Some-Err w ↦
          let said = w.in-Some-Err in
          next (Some (Err said.refusal)) (said.is ∙ ap Some (rw said.is at said.field-0-is)) (rw (← w.from.ensures) w.refusals-is) (kept j w.moves-is) (kept j w.cuts-is) (kept j w.firsts-is)
      | in-Some-Ok w ↦
          let said = w.in-Some-Ok in
          next (Some (Ok said.share)) (said.is ∙ ap Some (rw said.is at said.field-0-is)) w.refusals-is w.moves-is w.cuts-is w.firsts-is
    ]

pub returns : goal.returns
returns c =
    let all : c.loop-j.j ≡ max_sheets = omega arith in
    all_told c.told-refusals c.told-moves c.told-cuts c.told-firsts (rw all at c.loop-j.invariant)
