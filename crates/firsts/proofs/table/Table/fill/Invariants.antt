-- `firsts::table::Table::fill` meets its contract. The loop's invariant: the rows of the chores passed.
use lib.ListN.{length}
use Rattle.model.specs.Instance.{owner_of}
use Rattle.firsts.specs.Traits.{has_trait}
use Rattle.firsts.proofs.Filling.{Filled}
use Rattle.firsts.proofs.table.Table.fill.Given as goal

abbrev pub invariant-loop-c : goal.invariant-loop-c
invariant-loop-c l = Filled l.n (length l.owners) (owner_of l.owners) (has_trait l.chores.prices.now l.chores.entitled.now l.chores.likes.now l.chores.view.free l.chores.view.grouped l.chores.view.mid l.chores.view.top) l.c l.self.first l.self.sets
