use Rattle.std.proofs.Common.{arith, sym}
use Rattle.std.proofs.lemmas.Bool.Decides.{nat_tests}
use Rattle.model.specs.Refusals.{◌or_else◌, show_refusal}
use Rattle.model.proofs.Refusing.{at_exit}
use Rattle.sheet.specs.Valid.{Joinable}
use Rattle.sheet.proofs.Strands.{joinable}
use Rattle.strands.proofs.Refusals.{joinable_headers}
use Rattle.strands.proofs.admit_show.Goals as goal
use Rattle.strands.proofs.admit_show.Goals.{In_ok-admit_strands}

-- the strands can be joined, so that what is read of them is there
fit : (c : In_ok-admit_strands) → Joinable c.args.first.now c.args.second.now
fit c = joinable _ _ (sym c.in_ok-admit_strands.ensures)

pub returns-in_err-admit_strands : goal.returns-in_err-admit_strands
unfolding show_refusal ◌or_else◌
returns-in_err-admit_strands c = let e = at_exit c.from_residual.result _ c.from_residual.ensures.1 c.in_err-admit_strands.ensures in grind (arith, nat_tests, e)

pub agents-requires : goal.agents-requires
agents-requires c = (fit (goal.at.agents-requires c).In_ok-admit_strands).valid_first.header

pub returns-then-out_of_range : goal.returns-then-out_of_range
unfolding show_refusal ◌or_else◌
returns-then-out_of_range c = grind (arith, nat_tests)

pub joined_chores-requires : goal.joined_chores-requires
joined_chores-requires c = joinable_headers (fit (goal.at.joined_chores-requires c).In_ok-admit_strands)

pub returns-then-out_of_range-2 : goal.returns-then-out_of_range-2
unfolding show_refusal ◌or_else◌
returns-then-out_of_range-2 c = grind (arith, nat_tests)

pub returns : goal.returns
unfolding show_refusal ◌or_else◌
returns c = grind (arith, nat_tests)
