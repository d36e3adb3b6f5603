-- `firsts::table::Table::search_on` meets its contract. The loop's invariant: the search among the chores before k.
use mathlib.Core.Path.{◌≡◌}
use Rattle.model.specs.Instance.{owner_of}
use Rattle.firsts.specs.Traits.{has_trait}
use Rattle.firsts.specs.Table.{SearchedOn}
use Rattle.firsts.proofs.table.Table.search_on.Given as goal

abbrev pub invariant-loop-k : goal.invariant-loop-k
invariant-loop-k l = record {
  row : SearchedOn l.k (owner_of l.owners) (has_trait l.chores.prices.now l.chores.entitled.now l.chores.likes.now l.chores.view.free l.chores.view.grouped l.chores.view.mid l.chores.view.top) l.w l.c l.missing l.left l.initial.self.first l.self.first;
  sets : l.self.sets ≡ l.initial.self.sets;
}
