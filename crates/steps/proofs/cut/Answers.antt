-- `steps::cut` meets its contract.
use Rattle.steps.proofs.cut.Goals as goal

pub returns : goal.returns
returns c =
    record {
      group = c.reached-group.result;
      in_line = rw c.agents.ensures.is at c.reached-group.ensures;
      cut = rw (c.easy_weight-a.ensures, c.difficult_weight-b.ensures) at c.cut_prices.ensures;
      grouped = c.cut_groups.ensures;
    }
