use Rattle.std.proofs.Common.{rules, tests}
use Rattle.finite.proofs.Found.{found_in}
use Rattle.model.specs.Fairness.{owns}
use Rattle.given.proofs.Found.{any_found}
use Rattle.waste.specs.Tests.{passable}
use Rattle.waste.proofs.walk.first_passable.Goals as goal

pub returns : goal.returns
unfolding passable owns
returns c =
    rw (← c.chores.ensures.is)
    (found_in c.chores.result (passable c.args.sheet.now c.args.owners.now c.args.distances.now c.args.limit c.args.h) _ _ c.find.result c.find.ensures.ran (λ x b q k. search (rules, tests, any_found)))
