-- `sheet::agents` meets its contract: byte 0.
use borrow.Author.Rules.{rules}
use Rattle.model.specs.Sheet.{agents_of}
use Rattle.sheet.proofs.agents.Goals as goal

pub returns : goal.returns
unfolding agents_of
returns c = search rules
