-- `pricecheck::greatest_in_byte` meets its contract. The loop's invariant: the greatest worth of the chores passed, or what was known.
use Prim.Native.Nat.{max}
use mathlib.Core.Path.{◌≡◌}
use Rattle.finite.specs.Sums.{max_to}
use Rattle.pricecheck.specs.Worths.{worth_in}
use Rattle.pricecheck.proofs.greatest_in_byte.Given as goal

abbrev pub invariant-loop-j : goal.invariant-loop-j
invariant-loop-j l = l.greatest ≡ max l.known (max_to l.j (worth_in l.a l.b l.prices l.first l.byte))
