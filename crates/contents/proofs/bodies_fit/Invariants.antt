-- `contents::bodies_fit` meets its contract. The loop's invariant: the bodies passed start where they should, and the next one should
-- start at `end`.
use mathlib.Core.Bool.{true}
use mathlib.Core.Path.{◌≡◌}
use Rattle.model.specs.Contents.{body_start}
use Rattle.contents.specs.Parts.{starts_fit}
use Rattle.contents.proofs.bodies_fit.Given as goal

abbrev pub invariant-loop-j : goal.invariant-loop-j
invariant-loop-j l = (l.end ≡ body_start l.book l.j) × (starts_fit l.book l.j ≡ true)
