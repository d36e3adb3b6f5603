-- `sheet::easy_weight` meets its contract: the word at 2.
use borrow.Author.Rules.{rules}
use Rattle.model.specs.Sheet.{easy_weight}
use Rattle.sheet.proofs.easy_weight.Goals as goal

pub returns : goal.returns
unfolding easy_weight
returns c = search rules
