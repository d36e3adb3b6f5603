-- `market::sums::by_group` meets its contract. The loop's invariant: the agents passed, by their groups.
use Rattle.market.specs.Market.{ByGroup}
use Rattle.market.proofs.sums.by_group.Given as goal

abbrev pub invariant-loop-i : goal.invariant-loop-i
invariant-loop-i l = ByGroup l.i l.groups l.free l.grouped
