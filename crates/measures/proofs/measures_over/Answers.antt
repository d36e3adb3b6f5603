use Rattle.std.proofs.Common.{refl, sym, arith}
use Rattle.model.proofs.Refusing.{left}
use Rattle.measures.proofs.Answering.{measures_divide, turned_down, told}
use Rattle.measures.proofs.measures_over.Goals as goal

pub returns-in_err-sheet : goal.returns-in_err-sheet
returns-in_err-sheet c =
    let L = left c.from_residual.result _ c.from_residual.ensures.1 c.in_err-sheet.ensures.number in
    let p = L.positive in
    rw L.is (turned_down _ _ L.number (λ z. omega (arith, z, p, L.number)))

pub write_shares-requires : goal.write_shares-requires
write_shares-requires c = rw c.in_ok-sheet.ensures.same (measures_divide _ (sym c.in_ok-sheet.ensures.number))

pub returns : goal.returns
returns c = told c.args.sheet.now c.args.numbers.now c.in_ok-sheet.ensures.number refl (rw (← c.in_ok-sheet.ensures.same) c.write_shares.ensures)
