-- `sheet::chores` meets its contract: the word at 1.
use borrow.Author.Rules.{rules}
use Rattle.model.specs.Sheet.{chores_of}
use Rattle.sheet.proofs.chores.Goals as goal

pub returns : goal.returns
unfolding chores_of
returns c = search rules
