-- What is given decides, or else the prices.
use Rattle.std.proofs.Common.{arith}
use Rattle.std.proofs.lemmas.Bool.Decides.{nat_tests}
use Rattle.model.specs.Refusals.{◌or_else◌, price_refusal}
use Rattle.model.proofs.Refusing.{at_exit}
use Rattle.pricecheck.proofs.admit.Goals as goal

pub returns-in_err-sheet-clause-number : goal.returns-in_err-sheet-clause-number
unfolding price_refusal ◌or_else◌
returns-in_err-sheet-clause-number c = let e = at_exit c.from_residual.result _ c.from_residual.ensures.1 c.in_err-sheet.ensures.number in grind (arith, nat_tests, e)

pub returns-in_err-admit_prices-clause-number : goal.returns-in_err-admit_prices-clause-number
unfolding price_refusal ◌or_else◌
returns-in_err-admit_prices-clause-number c =
    let e = at_exit c.from_residual-in_err-admit_prices.result _ c.from_residual-in_err-admit_prices.ensures.1 c.in_err-admit_prices.ensures in
    grind (arith, nat_tests, e)

pub returns-clause-number : goal.returns-clause-number
unfolding price_refusal ◌or_else◌
returns-clause-number c = grind (arith, nat_tests)
