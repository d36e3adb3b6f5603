use Rattle.std.proofs.Common.{rules, tests}
use Rattle.finite.proofs.Found.{found_in}
use Rattle.model.specs.Fairness.{owns}
use Rattle.given.specs.Burdens.{burdens}
use Rattle.given.proofs.first_burden.Goals as goal

pub returns : goal.returns
unfolding burdens owns
returns c =
    rw (← c.chores.ensures.is)
    (found_in c.chores.result (burdens c.args.sheet.now c.args.owners.now c.args.i) _ _ c.find.result c.find.ensures.ran (λ x b q k. search (rules, tests)))
