use mathlib.Core.Path.{◌≡◌}
use mathlib.Core.Bool.{cond}
use lib.ListN.{length, take}
use Rattle.finite.specs.Lists.{tabulate}
use Rattle.model.specs.Limits.{max_agents}
use Rattle.model.specs.Instance.{owner_of}
use Rattle.model.specs.Sheet.{as_marked}
use Rattle.welfare.specs.Waste.{burdened}
use Rattle.waste.specs.Rings.{no_distance}
use Rattle.waste.proofs.connected.first_ring.Given as goal

abbrev pub invariant-loop-i : goal.invariant-loop-i
invariant-loop-i l = (length l.distances ≡ max_agents) × (take l.i l.distances ≡ tabulate l.i (λ k. cond (burdened (as_marked l.sheet) (owner_of l.owners) k) 0 no_distance))
