-- A refusal, or a list at the start of what was lent.
use Rattle.std.proofs.Common.{refl, sym, ap, ◌∙◌, ◌≡◌, length, take, arith}
use Rattle.model.specs.Sheet.{chores_of}
use Rattle.std.proofs.lemmas.List.{length-take-le}
use Rattle.model.proofs.Refusing.{at_exit}
use Rattle.sheet.proofs.Refusal.{lent_room}
use Rattle.measures.proofs.Answering.{measures_divide, whole_at}
use Rattle.measuredlist.proofs.Answering.{unmeasured, short, listed}
use Rattle.measuredlist.proofs.measured_list.Goals as goal
use Rattle.measuredlist.proofs.measured_list.Goals.{After-chores-m, In_ok-admit_lent}

chores : (c : After-chores-m) → c.chores-m.result ≡ chores_of c.args.sheet.now
chores c = c.chores-m.ensures.is ∙ ap chores_of c.in_ok-sheet.ensures.same

pub returns-in_err-sheet : goal.returns-in_err-sheet
returns-in_err-sheet c =
    let e = at_exit c.from_residual.result _ c.from_residual.ensures.1 c.in_err-sheet.ensures.number in
    unmeasured e.0 (λ z. omega (arith, z, e))

pub returns-in_err-admit_lent : goal.returns-in_err-admit_lent
returns-in_err-admit_lent c =
    let e = at_exit c.from_residual-in_err-admit_lent.result _ c.from_residual-in_err-admit_lent.ensures.1 c.in_err-admit_lent.ensures in
    short c.in_ok-sheet.ensures.number refl (chores (goal.at.returns-in_err-admit_lent c).After-chores-m) e.0 (λ z. omega (arith, z, e))

pub write_shares-requires : goal.write_shares-requires
write_shares-requires c = rw c.in_ok-sheet.ensures.same (measures_divide _ (sym c.in_ok-sheet.ensures.number))

-- what was lent is long enough
front : (c : In_ok-admit_lent) → length (take c.chores-m.result c.args.owners.now) ≡ c.chores-m.result
front c = length-take-le c.chores-m.result c.args.owners.now (lent_room (sym c.in_ok-admit_lent.ensures))

pub slice_bounds-respect-end : goal.slice_bounds-respect-end
slice_bounds-respect-end c =
    let enough = lent_room (sym c.in_ok-admit_lent.ensures) in
    omega (arith, enough)

pub slice_bounds-respect-end-2 : goal.slice_bounds-respect-end-2
slice_bounds-respect-end-2 c = sym (front (goal.at.slice_bounds-respect-end-2 c).In_ok-admit_lent)

pub respect-requires : goal.respect-requires
respect-requires c =
    let same = c.in_ok-sheet.ensures.same in
    let s = c.args.sheet.now in
    record {
      measured_sheet = rw same (record { divides = measures_divide s (sym c.in_ok-sheet.ensures.number); each = whole_at s _ (rw same at c.write_shares.ensures) });
      owners_len = front (goal.at.respect-requires c).In_ok-admit_lent ∙ c.chores-m.ensures.is;
    }

pub returns : goal.returns
returns c =
    listed c.args.owners.now (rw c.in_ok-sheet.ensures.same at c.respect.ensures) (chores (goal.at.returns c).After-chores-m) c.in_ok-sheet.ensures.number refl c.in_ok-admit_lent.ensures refl
