-- A refused lookup takes no bytes, any other the sheet of that number.
use Rattle.std.proofs.Common.{◌≡◌, sym, ◌∙◌, arith}
use Rattle.model.specs.Refusals.{lookup_refusal}
use Rattle.model.proofs.Refusing.{left}
use Rattle.contents.proofs.Lookup.{some_number, sheet_in_book_lem, lookup_found, lookup_none}
use Rattle.contents.proofs.find_sheet.Goals as goal
use Rattle.contents.proofs.find_sheet.Goals.{In_ok-admit_lookup}

-- the lookup is not refused
found : (c : In_ok-admit_lookup) → lookup_refusal c.args.book.now c.args.which ≡ 0
found c = sym c.in_ok-admit_lookup.ensures

pub returns-in_err-admit_lookup : goal.returns-in_err-admit_lookup
returns-in_err-admit_lookup c =
    let L = left c.from_residual.result _ c.from_residual.ensures.1 c.in_err-admit_lookup.ensures in
    let p = L.positive in
    rw L.is (record { answer = L.number; part = sym (lookup_none _ _ (λ z. omega (arith, z, p))) })

pub overflow_sub-which : goal.overflow_sub-which
overflow_sub-which c = omega (arith, some_number _ _ (found (goal.at.overflow_sub-which c).In_ok-admit_lookup))

pub sheet_at-requires : goal.sheet_at-requires
sheet_at-requires c = sheet_in_book_lem _ _ (found (goal.at.sheet_at-requires c).In_ok-admit_lookup)

pub returns : goal.returns
returns c =
    let none = found (goal.at.returns c).In_ok-admit_lookup in
    record { answer = sym none; part = c.sheet_at.ensures ∙ sym (lookup_found _ _ none) }
