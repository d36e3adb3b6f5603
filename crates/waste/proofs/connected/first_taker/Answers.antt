use Rattle.std.proofs.Common.{rules, tests}
use Rattle.finite.proofs.Found.{found_in}
use Rattle.waste.specs.Tests.{takes}
use Rattle.waste.proofs.connected.first_taker.Goals as goal

pub returns : goal.returns
unfolding takes
returns c =
    rw (← c.agents.ensures.is)
    (found_in c.agents.result (takes c.args.sheet.now c.args.distances.now c.args.limit c.args.c) _ _ c.find.result c.find.ensures.ran (λ x b q k. search (rules, tests)))
