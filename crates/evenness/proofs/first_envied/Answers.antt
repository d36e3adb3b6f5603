-- `evenness::first_envied` meets its contract: whom agent i envies is told by the sums.
use mathlib.Core.Path.{◌∙◌}
use Rattle.evenness.proofs.Sums.{envied_first, envied_none}
use Rattle.evenness.proofs.first_envied.Goals as goal

pub returns-then-is_none : goal.returns-then-is_none
returns-then-is_none c =
    envied_none c.requires.given _ c.requires.i_bound c.add_costs.ensures _ (rw c.agents-n.ensures.is at c.first_below.ensures) c.if-is_none.ensures

pub returns : goal.returns
returns c =
    rw c.agents-n.ensures.is at c.first_below-2.ensures ∙ envied_first c.requires.given _ c.requires.i_bound c.add_costs.ensures c.taken_off.ensures
