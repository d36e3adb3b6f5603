-- `measures::deal` meets its contract, a level at a turn: of the chores all but those left have been dealt.
use Prim.Native.Nat.{◌-◌, ◌≤◌}
use mathlib.Core.Path.{◌≡◌}
use Rattle.measures.specs.Dealing.{dealt_on}
use Rattle.measures.proofs.deal.Given as goal

abbrev pub invariant-loop-left : goal.invariant-loop-left
invariant-loop-left l = (l.left ≤ l.count) × (l.costs ≡ dealt_on l.n l.weight (l.count - l.left) l.initial.costs)

abbrev pub decreases-loop-left : goal.decreases-loop-left
decreases-loop-left l = l.left
