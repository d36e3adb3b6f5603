-- `steps::hand_over` meets its contract.
use mathlib.Core.Path.{ap}
use Rattle.steps.specs.declared.Turn.TheVariants.{Moved}
use Rattle.steps.proofs.hand_over.Goals as goal

pub hand_on-requires : goal.hand_on-requires
hand_on-requires c =
    let pre = c.requires in
    (pre.listed, rw c.first_of-chore.ensures pre.chore, pre.receiver)

pub returns : goal.returns
returns c =
    let due = c.args.due in
    record {
      told = ap (λ k. Moved k due.giver due.receiver) c.first_of-chore.ensures;
      handed = rw (← c.first_of-chore.ensures) c.hand_on.ensures;
    }
