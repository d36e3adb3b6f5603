-- The sheet decides, or else its weights.
use Rattle.std.proofs.Common.{arith}
use Rattle.std.proofs.lemmas.Bool.Decides.{nat_tests}
use Rattle.model.specs.Refusals.{◌or_else◌, measures_refusal, multiple_refusal}
use Rattle.model.proofs.Refusing.{at_exit}
use Rattle.measures.proofs.admit.Goals as goal

pub returns-in_err-sheet-clause-number : goal.returns-in_err-sheet-clause-number
unfolding measures_refusal ◌or_else◌
returns-in_err-sheet-clause-number c =
    let e = at_exit c.from_residual.result _ c.from_residual.ensures.1 c.in_err-sheet.ensures.number in grind (arith, nat_tests, e)

pub returns-then-difficult_weight-easy_weight-ne0-clause-number : goal.returns-then-difficult_weight-easy_weight-ne0-clause-number
unfolding measures_refusal multiple_refusal ◌or_else◌
returns-then-difficult_weight-easy_weight-ne0-clause-number c = rw (← c.in_ok-sheet.ensures.same) (grind (arith, nat_tests))

pub returns-clause-number : goal.returns-clause-number
unfolding measures_refusal multiple_refusal ◌or_else◌
returns-clause-number c = rw (← c.in_ok-sheet.ensures.same) (grind (arith, nat_tests))
