-- `measures::deal_level` meets its contract. The loop's invariant: the bundles passed that cost `least` have one chore more, and all others cost no less.
use mathlib.Core.List.{◌++◌}
use lib.ListN.{drop}
use Rattle.measures.specs.Dealing.{LevelPassed}
use Rattle.measures.proofs.deal_level.Given as goal

abbrev pub invariant-loop-cost : goal.invariant-loop-cost
invariant-loop-cost l = LevelPassed l.n l.weight l.least l.count l.fn.costs l.cost-index l.left (l.cost-items ++ drop l.n l.fn.costs)
