-- `clookup::find_sheet` meets its contract: where nothing is refused, the entry of the contents says where the sheet lies.
use Prim.Native.Nat.{◌+◌, ◌-◌, ◌*◌, ◌≤◌}
use mathlib.Core.Path.{◌≡◌, sym, ◌∙◌}
use native.Mathlib.Omega.{arith}
use lib.ListN.{length}
use Rattle.model.specs.Refusals.{lookup_refusal}
use Rattle.model.proofs.Refusing.{numbered}
use Rattle.contents.proofs.Bodies.{entry_inside}
use Rattle.contents.proofs.Lookup.{some_number, sheet_in_book_lem}
use Rattle.clookup.proofs.Finding.{not_found, found}
use Rattle.clookup.proofs.find_sheet.Goals as goal
use Rattle.clookup.proofs.find_sheet.Goals.{In_default}

-- where nothing is refused the number is that of a sheet
right : (c : In_default) → lookup_refusal c.args.book.now c.args.sheet_number ≡ 0
right c = sym c.in_default.ensures

entry : (c : In_default) → 1 + 4 * (c.args.sheet_number - 1 + 1) ≤ length c.args.book.now
entry c = let there = sheet_in_book_lem _ _ (right c) in entry_inside there.fits _ there.below

pub returns-in-Err : goal.returns-in-Err
returns-in-Err c =
    let p = numbered c.in-Err.refusal in
    not_found _ _ (c.from.ensures ∙ c.in-Err.ensures) (λ z. omega (arith, z, p, c.from.ensures))

pub overflow_sub-j : goal.overflow_sub-j
overflow_sub-j c = some_number _ _ (right (goal.at.overflow_sub-j c).In_default)

pub start_of-requires : goal.start_of-requires
start_of-requires c = omega (arith, entry (goal.at.start_of-requires c).In_default)

pub size_of-requires : goal.size_of-requires
size_of-requires c = entry (goal.at.size_of-requires c).In_default

pub returns : goal.returns
returns c = found _ _ (right (goal.at.returns c).In_default) c.start_of.ensures.is c.size_of.ensures.is
