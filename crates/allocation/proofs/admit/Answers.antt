-- The sheet decides, or else what is lent.
use Rattle.std.proofs.Common.{◌≡◌, ◌∙◌, arith, ap}
use Rattle.std.proofs.lemmas.Bool.Decides.{nat_tests}
use Rattle.model.specs.Sheet.{chores_of}
use Rattle.model.specs.Refusals.{◌or_else◌, allocate_refusal}
use Rattle.model.proofs.Refusing.{at_exit}
use Rattle.allocation.proofs.admit.Goals as goal
use Rattle.allocation.proofs.admit.Goals.{After-chores-m}

chores : (c : After-chores-m) → c.chores-m.result ≡ chores_of c.args.bytes.now
chores c = c.chores-m.ensures.is ∙ ap chores_of c.in_ok-sheet.ensures.same

pub returns-in_err-sheet-clause-number : goal.returns-in_err-sheet-clause-number
unfolding allocate_refusal ◌or_else◌
returns-in_err-sheet-clause-number c =
    let e = at_exit c.from_residual.result _ c.from_residual.ensures.1 c.in_err-sheet.ensures.number in grind (arith, nat_tests, e)

pub returns-in_err-admit_lent-clause-number : goal.returns-in_err-admit_lent-clause-number
unfolding allocate_refusal ◌or_else◌
returns-in_err-admit_lent-clause-number c =
    let m = chores (goal.at.returns-in_err-admit_lent-clause-number c).After-chores-m in
    let e = at_exit c.from_residual-in_err-admit_lent.result _ c.from_residual-in_err-admit_lent.ensures.1 (rw m at c.in_err-admit_lent.ensures) in
    grind (arith, nat_tests, e)

pub returns-in_err-admit_lent-2-clause-number : goal.returns-in_err-admit_lent-2-clause-number
unfolding allocate_refusal ◌or_else◌
returns-in_err-admit_lent-2-clause-number c =
    let m = chores (goal.at.returns-in_err-admit_lent-2-clause-number c).After-chores-m in
    let e = at_exit c.from_residual-in_err-admit_lent-2.result _ c.from_residual-in_err-admit_lent-2.ensures.1 (rw m at c.in_err-admit_lent-2.ensures) in
    let one = rw m at c.in_ok-admit_lent.ensures in
    grind (arith, nat_tests, e, one)

pub returns-in_err-admit_lent-3-clause-number : goal.returns-in_err-admit_lent-3-clause-number
unfolding allocate_refusal ◌or_else◌
returns-in_err-admit_lent-3-clause-number c =
    let m = chores (goal.at.returns-in_err-admit_lent-3-clause-number c).After-chores-m in
    let e = at_exit c.from_residual-in_err-admit_lent-3.result _ c.from_residual-in_err-admit_lent-3.ensures.1 c.in_err-admit_lent-3.ensures in
    let one = rw m at c.in_ok-admit_lent.ensures in
    let two = rw m at c.in_ok-admit_lent-2.ensures in
    grind (arith, nat_tests, e, one, two)

pub returns-clause-number : goal.returns-clause-number
unfolding allocate_refusal ◌or_else◌
returns-clause-number c =
    let m = chores (goal.at.returns-clause-number c).After-chores-m in
    let one = rw m at c.in_ok-admit_lent.ensures in
    let two = rw m at c.in_ok-admit_lent-2.ensures in
    grind (arith, nat_tests, one, two)
