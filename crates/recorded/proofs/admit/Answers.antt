-- The share-out's own refusals, or else the record's.
use Rattle.std.proofs.Common.{arith, sym, ◌∙◌}
use Rattle.std.proofs.lemmas.Bool.Decides.{nat_tests}
use Rattle.model.specs.Refusals.{◌or_else◌, recorded_refusal}
use Rattle.model.proofs.Refusing.{at_exit, taken}
use Rattle.allocation.proofs.Accepting.{is_fine}
use Rattle.recorded.proofs.Recording.{most_fit}
use Rattle.recorded.proofs.admit.Goals as goal

pub returns-in_err-sheet-clause-number : goal.returns-in_err-sheet-clause-number
unfolding recorded_refusal ◌or_else◌
returns-in_err-sheet-clause-number c =
    let e = at_exit c.from_residual.result _ c.from_residual.ensures.1 c.in_err-sheet.ensures.number in grind (arith, nat_tests, e)

pub returns-then-is_ok-clause-number : goal.returns-then-is_ok-clause-number
unfolding recorded_refusal ◌or_else◌
returns-then-is_ok-clause-number c =
    let told = c.in_ok-sheet.ensures in
    let fit = most_fit _ (is_fine _ _ _ _ (sym told.number)).valid (rw told.same at c.most_moves.ensures) (sym c.admit_moves.ensures ∙ taken c.admit_moves.result c.if-is_ok.ensures.value) in
    grind (arith, nat_tests, fit)

pub returns-in_err-admit_moves-clause-number : goal.returns-in_err-admit_moves-clause-number
unfolding recorded_refusal ◌or_else◌
returns-in_err-admit_moves-clause-number c =
    let told = c.in_ok-sheet.ensures in
    let counted = rw told.same at c.count_moves.ensures in
    let e = at_exit c.from_residual-in_err-admit_moves.result _ c.from_residual-in_err-admit_moves.ensures.1 (rw counted at c.in_err-admit_moves.ensures) in
    let fine = told.number in
    grind (arith, nat_tests, e, fine)

pub returns-clause-number : goal.returns-clause-number
unfolding recorded_refusal ◌or_else◌
returns-clause-number c = let same = c.in_ok-sheet.ensures.same in grind (arith, nat_tests, same)
