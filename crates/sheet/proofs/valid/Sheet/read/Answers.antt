-- What is not turned down breaks no rule.
use Rattle.std.proofs.Common.{sym}
use Rattle.sheet.specs.Valid.{Valid}
use Rattle.sheet.proofs.Refusal.{valid}
use Rattle.sheet.proofs.valid.Sheet.read.Goals as goal
use Rattle.sheet.proofs.valid.Sheet.read.Goals.{In_ok-admit_sheet}

fine : (c : In_ok-admit_sheet) → Valid c.args.bytes.now
fine c = valid _ (sym c.in_ok-admit_sheet.ensures)

pub agents-requires : goal.agents-requires
agents-requires c = (fine (goal.at.agents-requires c).In_ok-admit_sheet).header

pub chores-requires : goal.chores-requires
chores-requires c = (fine (goal.at.chores-requires c).In_ok-admit_sheet).header

pub invariant_of-result : goal.invariant_of-result
invariant_of-result c =
    record { valid = fine (goal.at.invariant_of-result c).In_ok-admit_sheet; agents = c.agents.ensures.is; chores = c.chores.ensures.is }
