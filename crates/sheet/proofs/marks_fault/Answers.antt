use Rattle.std.proofs.Common.{rules, tests}
use Rattle.model.specs.Sheet.{row_of}
use Rattle.model.specs.Refusals.{set_after, marks_fault}
use Rattle.finite.proofs.Found.{any_in}
use Rattle.sheet.proofs.marks_fault.Goals as goal

pub returns : goal.returns
unfolding marks_fault
returns c =
    let whole = c.requires.whole in
    rw (← whole.agents, ← whole.chores) (any_in c.args.n (λ i. set_after c.args.m (row_of c.args.sheet.now i)) _ _ c.any.result c.any.ensures.ran (λ x b q k. search (rules, tests)))
