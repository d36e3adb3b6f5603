-- Nothing with a refusal, or else the person's row of the sheet that holds the chore.
use Rattle.std.proofs.Common.{◌≡◌, sym, arith}
use Rattle.model.specs.Refusals.{show_refusal}
use Rattle.model.proofs.Refusing.{left}
use Rattle.strands.proofs.Refusals.{show_joinable, show_person}
use Rattle.strands.proofs.Showing.{not_shown, held_valid, held-row, shown}
use Rattle.strands.proofs.show_marks.Goals as goal
use Rattle.strands.proofs.show_marks.Goals.{In_ok-admit_show}

-- nothing is refused
right : (c : In_ok-admit_show) → show_refusal c.args.first.now c.args.second.now c.args.person c.args.chore ≡ 0
right c = sym c.in_ok-admit_show.ensures

pub returns-in_err-admit_show : goal.returns-in_err-admit_show
returns-in_err-admit_show c =
    let L = left c.from_residual.result _ c.from_residual.ensures.1 c.in_err-admit_show.ensures in
    let p = L.positive in
    rw L.is (not_shown _ _ _ _ L.number (λ z. omega (arith, z, p, L.number)))

pub strand_sheet-held-requires : goal.strand_sheet-held-requires
strand_sheet-held-requires c = (show_joinable _ _ _ _ (right (goal.at.strand_sheet-held-requires c).In_ok-admit_show)).valid_first.header

pub chores-requires : goal.chores-requires
chores-requires c = (held_valid _ _ _ _ (right (goal.at.chores-requires c).In_ok-admit_show) c.strand_sheet-held.ensures).header

pub overflow_sub-person : goal.overflow_sub-person
overflow_sub-person c = (show_person _ _ _ _ (right (goal.at.overflow_sub-person c).In_ok-admit_show)).0

pub row-requires : goal.row-requires
row-requires c = held-row _ _ _ _ (right (goal.at.row-requires c).In_ok-admit_show) c.strand_sheet-held.ensures c.chores.ensures.is

pub returns : goal.returns
returns c =
    let none = right (goal.at.returns c).In_ok-admit_show in
    shown _ _ _ _ none (sym none) c.strand_sheet-held.ensures c.row.ensures
