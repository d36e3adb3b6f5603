use Rattle.std.proofs.Common.{rules}
use Rattle.finite.proofs.Found.{found_in}
use Rattle.finite.specs.Search.{any_below}
use Rattle.model.specs.Instance.{owner_of}
use Rattle.model.specs.Sheet.{as_marked}
use Rattle.model.specs.Verdicts.{envies, first_of_pair}
use Rattle.given.proofs.Found.{any_found}
use Rattle.evenness.proofs.first_envier.Goals as goal

pub returns : goal.returns
unfolding first_of_pair
returns c =
    rw (← c.agents.ensures.is)
    (found_in c.agents.result (λ i. any_below c.agents.result (λ j. envies c.args.slack (as_marked c.args.sheet.now) (owner_of c.args.owners.now) i j)) _ _ c.find.result c.find.ensures.ran
    (λ x b q k. search (rules, any_found)))
