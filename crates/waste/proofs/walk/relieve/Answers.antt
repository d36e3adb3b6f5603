use mathlib.Core.Path.{◌≡◌, sym, ap, ◌∙◌}
use native.Mathlib.Omega.{arith}
use Rattle.std.specs.Prelude.{is_some}
use Rattle.finite.specs.Search.{first_below}
use Rattle.finite.proofs.Found.{below_some}
use Rattle.model.specs.Sheet.{chores_of}
use Rattle.given.specs.Burdens.{burdens}
use Rattle.given.proofs.Found.{found_is}
use Rattle.waste.proofs.walk.relieve.Goals as goal
use Rattle.waste.proofs.walk.relieve.Goals.{After-unwrap-f}

-- the chore found
burden : (c : After-unwrap-f) → c.unwrap-f.result ≡ first_below (chores_of c.args.sheet.now) (burdens c.args.sheet.now c.args.owners.now c.args.h)
burden c = (found_is (sym c.unwrap-f.ensures ∙ c.first_burden.ensures)).0

pub unwrap-f-requires : goal.unwrap-f-requires
unwrap-f-requires c = ap is_some (c.first_burden.ensures ∙ below_some c.requires.burden)

pub bounds-list-f : goal.bounds-list-f
bounds-list-f c = omega (arith, burden (goal.at.bounds-list-f c).After-unwrap-f, c.requires.burden, c.requires.long)

pub returns-then-h-i : goal.returns-then-h-i
returns-then-h-i c = record { back = λ q. absurd (c.if-h-i.true q); handed = λ ne. rw (burden (goal.at.returns-then-h-i c).After-unwrap-f) }
