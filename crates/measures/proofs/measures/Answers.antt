-- The shares over zeros, and nothing with a refusal.
use Rattle.std.proofs.Common.{arith}
use Rattle.model.proofs.Refusing.{left}
use Rattle.measures.proofs.Answering.{turned_down}
use Rattle.measures.proofs.measures.Goals as goal

pub returns-in_err-measures_over : goal.returns-in_err-measures_over
returns-in_err-measures_over c =
    let L = left c.from_residual.result _ c.from_residual.ensures.1 c.in_err-measures_over.ensures.answer in
    let p = L.positive in
    rw L.is (turned_down _ _ L.number (λ z. omega (arith, z, p, L.number)))
