use Rattle.std.proofs.Common.{rules, tests}
use Rattle.std.proofs.lemmas.Iterator.{serves_from_Range}
use Rattle.finite.proofs.Found.{found_in}
use Rattle.given.proofs.Found.{any_found}
use Rattle.waste.specs.Tests.{wasted}
use Rattle.given.proofs.Given.{owner_below}
use Rattle.waste.proofs.connected.first_wasted.Goals as goal

pub find-requires-clause-callable : goal.find-requires-clause-callable
find-requires-clause-callable c = serves_from_Range (λ x q r. search rules) (λ x _ l. search (rules, owner_below c.requires))

pub returns : goal.returns
unfolding wasted
returns c =
    rw (← c.chores.ensures.is)
    (found_in c.chores.result (wasted c.args.sheet.now c.args.owners.now c.args.distances.now) _ _ c.find.result c.find.ensures.ran (λ x b q k. search (rules, tests, any_found)))
