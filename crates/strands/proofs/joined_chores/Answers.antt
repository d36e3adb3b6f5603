-- `strands::joined_chores` meets its contract.
use borrow.Author.Rules.{rules}
use Rattle.model.specs.Strands.{joined_chores}
use Rattle.strands.proofs.joined_chores.Goals as goal

pub returns : goal.returns
unfolding joined_chores
returns c = search rules
