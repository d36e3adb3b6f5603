-- The sums passed are those of the lanes.
use Rattle.std.proofs.Common.{ℕ, ◌≡◌, ◌<◌, length, get_or}
use Rattle.model.specs.Limits.{max_agents}
use Rattle.totals.specs.Lanes.{lane_sum}
use Rattle.totals.proofs.lanes.add_lanes.Given as goal

abbrev pub invariant-loop-i : goal.invariant-loop-i
invariant-loop-i l = (length l.sums ≡ max_agents) × ((k : ℕ) → k < l.i → get_or l.sums k 0 ≡ lane_sum l.lanes k)
