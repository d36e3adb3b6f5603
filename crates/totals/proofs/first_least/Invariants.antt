-- `best` is the first of least sum among the agents passed.
use Rattle.std.proofs.Common.{true, ◌<◌, get_or}
use Rattle.finite.proofs.Chosen.{smaller}
use Rattle.finite.proofs.Running.{Running}
use Rattle.totals.proofs.first_least.Given as goal

abbrev pub invariant-loop-i : goal.invariant-loop-i
invariant-loop-i l = (l.best < l.n) × Running l.n l.i (λ k. true) (smaller (λ k. get_or l.sums k 0)) l.best
