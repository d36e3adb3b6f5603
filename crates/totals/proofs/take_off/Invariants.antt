-- The dearest of the agents passed are taken off, and the others are as they were.
use Rattle.std.proofs.Common.{length, ◌-◌, ◌≤◌, ◌≡◌, ◌<◌, ℕ, get_or}
use Rattle.totals.proofs.take_off.Given as goal

abbrev pub invariant-loop-i : goal.invariant-loop-i
invariant-loop-i l = (length l.dearest ≡ length l.initial.dearest) × ((k : ℕ) → k < l.i → get_or l.dearest k 0 ≡ get_or l.sums k 0 - get_or l.initial.dearest k 0) × ((k : ℕ) → l.i ≤ k → get_or l.dearest k 0 ≡ get_or l.initial.dearest k 0)
