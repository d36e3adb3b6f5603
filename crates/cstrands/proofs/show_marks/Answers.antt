-- `cstrands::show_marks` meets its contract: where nothing is refused, the row starts where that sheet has it.
use mathlib.Core.Path.{◌≡◌, sym, ◌∙◌}
use native.Mathlib.Omega.{arith}
use Rattle.model.specs.Refusals.{show_refusal}
use Rattle.model.proofs.Refusing.{numbered}
use Rattle.strands.proofs.Refusals.{show_joinable, show_person}
use Rattle.strands.proofs.Showing.{held_valid, held-row}
use Rattle.cstrands.proofs.Telling.{not_told, marks_told}
use Rattle.cstrands.proofs.show_marks.Goals as goal
use Rattle.cstrands.proofs.show_marks.Goals.{In_default}

-- nothing is refused
right : (c : In_default) → show_refusal c.args.first.now c.args.second.now c.args.person c.args.chore ≡ 0
right c = sym c.in_default.ensures

pub returns-in-Err : goal.returns-in-Err
returns-in-Err c =
    let p = numbered c.in-Err.refusal in
    not_told _ _ _ _ (c.from.ensures ∙ c.in-Err.ensures) (λ z. omega (arith, z, p, c.from.ensures))

pub strand_sheet-held-requires : goal.strand_sheet-held-requires
strand_sheet-held-requires c = (show_joinable _ _ _ _ (right (goal.at.strand_sheet-held-requires c).In_default)).valid_first.header

pub chores-m-requires : goal.chores-m-requires
chores-m-requires c = (held_valid _ _ _ _ (right (goal.at.chores-m-requires c).In_default) c.strand_sheet-held.ensures).header

pub strand_of-requires : goal.strand_of-requires
strand_of-requires c = (show_joinable _ _ _ _ (right (goal.at.strand_of-requires c).In_default)).valid_first.header

pub overflow_sub-person : goal.overflow_sub-person
overflow_sub-person c = (show_person _ _ _ _ (right (goal.at.overflow_sub-person c).In_default)).0

pub row_start-requires : goal.row_start-requires
row_start-requires c =
    let there = held-row _ _ _ _ (right (goal.at.row_start-requires c).In_default) c.strand_sheet-held.ensures c.chores-m.ensures.is in record { m_bound = c.chores-m.ensures.below; i_bound = omega (arith, there.agent, there.valid.agents_fit) }

pub row_size-requires : goal.row_size-requires
row_size-requires c = c.chores-m.ensures.below

pub returns : goal.returns
returns c =
    marks_told _ _ _ _ (right (goal.at.returns c).In_default) c.strand_sheet-held.ensures c.strand_of.ensures c.chores-m.ensures.is c.row_start.ensures c.row_size.ensures
