-- What is given decides, or else what is lent and the slack.
use Rattle.std.proofs.Common.{arith}
use Rattle.std.proofs.lemmas.Bool.Decides.{nat_tests}
use Rattle.model.specs.Refusals.{◌or_else◌, list_refusal, slack_refusal}
use Rattle.model.proofs.Refusing.{at_exit}
use Rattle.listcheck.proofs.admit.Goals as goal

pub returns-in_err-sheet-clause-number : goal.returns-in_err-sheet-clause-number
unfolding list_refusal ◌or_else◌
returns-in_err-sheet-clause-number c = let e = at_exit c.from_residual.result _ c.from_residual.ensures.1 c.in_err-sheet.ensures.number in grind (arith, nat_tests, e)

pub returns-in_err-admit_lent-clause-number : goal.returns-in_err-admit_lent-clause-number
unfolding list_refusal ◌or_else◌
returns-in_err-admit_lent-clause-number c = let e = at_exit c.from_residual-in_err-admit_lent.result _ c.from_residual-in_err-admit_lent.ensures.1 c.in_err-admit_lent.ensures in grind (arith, nat_tests, e)

pub returns-then-slack-gt-MAX_SLACK-clause-number : goal.returns-then-slack-gt-MAX_SLACK-clause-number
unfolding list_refusal slack_refusal ◌or_else◌
returns-then-slack-gt-MAX_SLACK-clause-number c = grind (arith, nat_tests)

pub returns-clause-number : goal.returns-clause-number
unfolding list_refusal slack_refusal ◌or_else◌
returns-clause-number c = grind (arith, nat_tests)
