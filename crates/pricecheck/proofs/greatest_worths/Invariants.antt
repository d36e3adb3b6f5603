-- `pricecheck::greatest_worths` meets its contract. The loop's invariant: the greatest worths of the chores passed, eight for each byte.
use Prim.Native.Nat.{◌*◌}
use Rattle.pricecheck.specs.Worths.{Greatest}
use Rattle.pricecheck.proofs.greatest_worths.Given as goal

abbrev pub invariant-loop-k : goal.invariant-loop-k
invariant-loop-k l = Greatest l.sheet l.prices (8 * l.k) l.greatest
