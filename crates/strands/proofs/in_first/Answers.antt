-- `strands::in_first` meets its contract.
use Rattle.model.specs.Strands.{in_first}
use Rattle.strands.proofs.in_first.Goals as goal

pub returns : goal.returns
unfolding in_first
returns c = rw c.chores.ensures.is
