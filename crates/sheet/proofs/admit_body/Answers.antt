-- A sheet ends where a row after the last would start.
use Rattle.std.proofs.Common.{◌≡◌, ◌∙◌, arith}
use Rattle.std.proofs.lemmas.Bool.Decides.{nat_tests}
use Rattle.model.specs.Sheet.{sheet_length}
use Rattle.model.specs.Refusals.{◌or_else◌}
use Rattle.sheet.proofs.Marks.{length_is}
use Rattle.sheet.proofs.admit_body.Goals as goal
use Rattle.sheet.proofs.admit_body.Goals.{After-row_start}

asked : (c : After-row_start) → c.row_start.result ≡ sheet_length c.args.sheet.now
asked c = c.row_start.ensures ∙ length_is c.args.sheet.now c.requires.read c.requires.read_2

pub returns-then-sheet-row_start : goal.returns-then-sheet-row_start
unfolding ◌or_else◌
returns-then-sheet-row_start c = grind (arith, nat_tests, asked (goal.at.returns-then-sheet-row_start c).After-row_start)

pub marks_fault-requires : goal.marks_fault-requires
marks_fault-requires c =
    let pre = c.requires in
    record { whole = record { long = c.if-sheet-row_start.false ∙ asked (goal.at.marks_fault-requires c).After-row_start; agents = pre.read.is; chores = pre.read_2.is; few = pre.read_2.below }; n_bound = pre.read.below }

pub returns-then-marks_fault : goal.returns-then-marks_fault
unfolding ◌or_else◌
returns-then-marks_fault c = grind (arith, nat_tests, asked (goal.at.returns-then-marks_fault c).After-row_start)

pub returns : goal.returns
unfolding ◌or_else◌
returns c = grind (arith, nat_tests, asked (goal.at.returns c).After-row_start)
