use Rattle.std.proofs.Common.{arith}
use Rattle.std.proofs.lemmas.Bool.Decides.{nat_tests}
use Rattle.model.specs.Refusals.{lent_refusal}
use Rattle.sheet.proofs.admit_lent.Goals as goal

pub returns-then-lent-needed : goal.returns-then-lent-needed
unfolding lent_refusal
returns-then-lent-needed c = grind (arith, nat_tests)

pub returns : goal.returns
unfolding lent_refusal
returns c = grind (arith, nat_tests)
