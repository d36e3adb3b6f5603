-- `firsts::table::Table::gain` meets its contract. The loop's invariant: of the traits that are no longer to come, the earlier chore is the first.
use Rattle.std.proofs.Common.{◌≡◌, min}
use Rattle.firsts.proofs.Placing.{Placing}
use Rattle.firsts.proofs.table.Table.gain.Given as goal

abbrev pub invariant-loop-t : goal.invariant-loop-t
invariant-loop-t l = record {
  row : Placing l.w l.word l.t-iterator.0 (min l.c) l.initial.self.first l.self.first;
  sets : l.self.sets ≡ l.initial.self.sets;
}
