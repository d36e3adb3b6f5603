-- By the test of the header's length, and then by what the header and the body are turned down for.
use Rattle.std.proofs.Common.{arith}
use Rattle.std.proofs.lemmas.Bool.Decides.{nat_tests}
use Rattle.model.specs.Refusals.{◌or_else◌, sheet_refusal}
use Rattle.model.proofs.Refusing.{at_exit}
use Rattle.sheet.proofs.admit_sheet.Goals as goal

pub returns-then-sheet-lt-HEADER_SIZE : goal.returns-then-sheet-lt-HEADER_SIZE
unfolding sheet_refusal ◌or_else◌
returns-then-sheet-lt-HEADER_SIZE c = grind (arith, nat_tests)

pub returns-in_err-admit_header : goal.returns-in_err-admit_header
unfolding sheet_refusal ◌or_else◌
returns-in_err-admit_header c = let e = at_exit c.from_residual.result _ c.from_residual.ensures.1 c.in_err-admit_header.ensures in grind (arith, nat_tests, e)

pub returns : goal.returns
unfolding sheet_refusal ◌or_else◌
returns c = grind (arith, nat_tests)
