use Rattle.std.proofs.Common.{arith}
use Rattle.std.proofs.lemmas.Bool.Decides.{nat_tests}
use Rattle.model.specs.Record.{step_of}
use Rattle.records.proofs.step_of.Goals as goal

pub returns-then-stage-eq0 : goal.returns-then-stage-eq0
unfolding step_of
returns-then-stage-eq0 c = grind (arith, nat_tests)

pub returns : goal.returns
unfolding step_of
returns c = grind (arith, nat_tests)
