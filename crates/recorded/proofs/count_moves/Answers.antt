-- `recorded::count_moves` meets its contract.
use Rattle.recorded.proofs.Recording.{counts_them}
use Rattle.recorded.proofs.count_moves.Goals as goal

pub returns : goal.returns
returns c = counts_them c.chores-m.ensures.valid c.share-counts.ensures
