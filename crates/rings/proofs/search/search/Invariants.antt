-- `rings::search::search` meets its contract. Before each ring: it is in line, and nobody in line is above the least sum. In a ring: so are those of the
-- next one who come before agent i.
use Prim.Native.Nat.{◌-◌}
use mathlib.Core.Path.{◌≡◌}
use Rattle.std.specs.Prelude.{None}
use Rattle.rings.proofs.Rounds.{AtRing, AtAgent}
use Rattle.rings.proofs.search.search.Given as goal

abbrev pub invariant-loop-i : goal.invariant-loop-i
invariant-loop-i l = (l.found ≡ None) × AtAgent l.n l.offers l.sums l.ups l.least l.from l.to l.further l.i l.end l.initial.scratch l.scratch

abbrev pub invariant-rings : goal.invariant-rings
invariant-rings l = (l.found ≡ None) × AtRing l.n l.offers l.sums l.ups l.least l.from l.to l.initial.to l.initial.scratch l.scratch

abbrev pub decreases-rings : goal.decreases-rings
decreases-rings l = l.n - l.from
