-- `contents::size_of` meets its contract: the last two bytes of an entry.
use borrow.Author.Rules.{rules}
use Rattle.model.specs.Contents.{sheet_size}
use Rattle.contents.proofs.size_of.Goals as goal

pub returns : goal.returns
unfolding sheet_size
returns c = search rules
