-- `pricecheck::envy_verdict` meets its contract: the first pair of the lists of sums is that of the definition.
use mathlib.Core.Path.{◌∙◌}
use Rattle.pricecheck.proofs.Envy.{envy_none, envy_found, above_is}
use Rattle.pricecheck.proofs.envy_verdict.Goals as goal

pub returns-in-Some : goal.returns-in-Some
returns-in-Some c = let pair = c.in-Some.ensures in envy_found _ pair.0 pair.2 pair.3 ∙ above_is c.requires.n_le_max_agents c.sum_up.ensures

pub returns-in-None : goal.returns-in-None
returns-in-None c = envy_none _ c.in-None.ensures ∙ above_is c.requires.n_le_max_agents c.sum_up.ensures
