-- `contents::count` meets its contract: byte 0.
use borrow.Author.Rules.{rules}
use Rattle.model.specs.Contents.{sheet_count}
use Rattle.contents.proofs.count.Goals as goal

pub returns : goal.returns
unfolding sheet_count
returns c = search rules
