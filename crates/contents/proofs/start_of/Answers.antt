-- `contents::start_of` meets its contract: the first two bytes of an entry.
use borrow.Author.Rules.{rules}
use Rattle.model.specs.Contents.{sheet_start}
use Rattle.contents.proofs.start_of.Goals as goal

pub returns : goal.returns
unfolding sheet_start
returns c = search rules
