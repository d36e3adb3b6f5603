-- Both sheets' own refusals first, so that what is read after them is there.
use Rattle.std.proofs.Common.{arith, sym}
use Rattle.std.proofs.lemmas.Bool.Decides.{nat_tests}
use Rattle.model.specs.Refusals.{◌or_else◌, strands_refusal}
use Rattle.model.proofs.Refusing.{at_exit}
use Rattle.strands.specs.Parts.{Headers}
use Rattle.strands.proofs.Refusals.{headers}
use Rattle.strands.proofs.admit_strands.Goals as goal
use Rattle.strands.proofs.admit_strands.Goals.{In_ok-admit_sheet-2}

both : (c : In_ok-admit_sheet-2) → Headers c.args.first.now c.args.second.now
both c = headers _ _ (sym c.in_ok-admit_sheet.ensures) (sym c.in_ok-admit_sheet-2.ensures)

pub returns-in_err-admit_sheet : goal.returns-in_err-admit_sheet
unfolding strands_refusal ◌or_else◌
returns-in_err-admit_sheet c = let e = at_exit c.from_residual.result _ c.from_residual.ensures.1 c.in_err-admit_sheet.ensures in grind (arith, nat_tests, e)

pub returns-in_err-admit_sheet-2 : goal.returns-in_err-admit_sheet-2
unfolding strands_refusal ◌or_else◌
returns-in_err-admit_sheet-2 c = let e = at_exit c.from_residual-in_err-admit_sheet-2.result _ c.from_residual-in_err-admit_sheet-2.ensures.1 c.in_err-admit_sheet-2.ensures in grind (arith, nat_tests, e)

pub agree-requires : goal.agree-requires
agree-requires c = both (goal.at.agree-requires c).In_ok-admit_sheet-2

pub returns-then-not-agree : goal.returns-then-not-agree
unfolding strands_refusal ◌or_else◌
returns-then-not-agree c = grind (arith, nat_tests)

pub joined_chores-requires : goal.joined_chores-requires
joined_chores-requires c = both (goal.at.joined_chores-requires c).In_ok-admit_sheet-2

pub returns-then-joined_chores-gt-MAX_CHORES : goal.returns-then-joined_chores-gt-MAX_CHORES
unfolding strands_refusal ◌or_else◌
returns-then-joined_chores-gt-MAX_CHORES c = grind (arith, nat_tests)

pub returns : goal.returns
unfolding strands_refusal ◌or_else◌
returns c = grind (arith, nat_tests)
