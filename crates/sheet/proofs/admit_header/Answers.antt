use Rattle.std.proofs.Common.{arith}
use Rattle.std.proofs.lemmas.Bool.Decides.{nat_tests}
use Rattle.model.specs.Refusals.{◌or_else◌, header_refusal}
use Rattle.sheet.proofs.admit_header.Goals as goal

pub returns-then-out_of_range : goal.returns-then-out_of_range
unfolding header_refusal ◌or_else◌
returns-then-out_of_range c = grind (arith, nat_tests)

pub returns-then-m-gt-MAX_CHORES : goal.returns-then-m-gt-MAX_CHORES
unfolding header_refusal ◌or_else◌
returns-then-m-gt-MAX_CHORES c = grind (arith, nat_tests)

pub returns-then-weights_fault : goal.returns-then-weights_fault
unfolding header_refusal ◌or_else◌
returns-then-weights_fault c = grind (arith, nat_tests)

pub returns : goal.returns
unfolding header_refusal ◌or_else◌
returns c = grind (arith, nat_tests)
