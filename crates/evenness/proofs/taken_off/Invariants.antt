-- `evenness::taken_off` meets its contract. The loop's invariant: the chores passed are counted, and no more difficult ones than are taken off.
use Prim.Native.Nat.{◌≤◌}
use Rattle.evenness.proofs.Counts.{Counted}
use Rattle.evenness.proofs.taken_off.Given as goal

abbrev pub invariant-loop-c : goal.invariant-loop-c
invariant-loop-c l = (l.difficult ≤ l.most) × Counted l.sheet l.owners l.i l.c l.held l.difficult
