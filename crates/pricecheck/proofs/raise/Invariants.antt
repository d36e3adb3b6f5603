-- `pricecheck::raise` meets its contract. The loop's invariant: the agents passed have the greatest with these chores, the others as before.
use Prim.Native.Nat.{◌+◌, ◌*◌}
use mathlib.Core.Bool.{true}
use Rattle.finite.proofs.Rewriting.{Rewritten}
use Rattle.pricecheck.specs.Worths.{greatest_to}
use Rattle.pricecheck.proofs.raise.Given as goal

abbrev pub invariant-loop-i : goal.invariant-loop-i
invariant-loop-i l = Rewritten l.i (λ j. true) (greatest_to l.sheet l.prices (8 * l.k + l.count)) l.initial.greatest l.greatest
