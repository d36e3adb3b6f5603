-- `sheet::difficult_weight` meets its contract: the word at 4.
use borrow.Author.Rules.{rules}
use Rattle.model.specs.Sheet.{difficult_weight}
use Rattle.sheet.proofs.difficult_weight.Goals as goal

pub returns : goal.returns
unfolding difficult_weight
returns c = search rules
