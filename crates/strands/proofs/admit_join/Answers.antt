use Rattle.std.proofs.Common.{arith, sym}
use Rattle.std.proofs.lemmas.Bool.Decides.{nat_tests}
use Rattle.model.specs.Refusals.{◌or_else◌, join_refusal}
use Rattle.model.proofs.Refusing.{at_exit}
use Rattle.sheet.proofs.Strands.{joinable}
use Rattle.strands.proofs.admit_join.Goals as goal

pub returns-in_err-admit_strands : goal.returns-in_err-admit_strands
unfolding join_refusal ◌or_else◌
returns-in_err-admit_strands c = let e = at_exit c.from_residual.result _ c.from_residual.ensures.1 c.in_err-admit_strands.ensures in grind (arith, nat_tests, e)

pub joined_size-requires : goal.joined_size-requires
joined_size-requires c = joinable _ _ (sym c.in_ok-admit_strands.ensures)

pub returns : goal.returns
unfolding join_refusal ◌or_else◌
returns c = grind (arith, nat_tests)
