use Prim.Native.Nat.{◌<◌}
use mathlib.Core.Path.{◌≡◌, refl, sym, ◌∙◌}
use native.Mathlib.Nat.{le_refl}
use native.Mathlib.Omega.{arith}
use lib.ListN.{length}
use Rattle.finite.proofs.Rewriting.{rewritten_none, rewritten_set, rewritten_keep, rewritten_at}
use Rattle.model.specs.Sheet.{agents_of}
use Rattle.given.specs.Given.{Weighed}
use Rattle.pricecheck.proofs.Worths.{column_eight, column_byte, column_read, column_passed}
use Rattle.pricecheck.proofs.raise.Goals as goal
use Rattle.pricecheck.proofs.raise.Goals.{After-difficult_weight-b, else-known-most, then-known-most}

weighed : (c : After-difficult_weight-b) → Weighed c.args.sheet.now c.easy_weight-a.result c.difficult_weight-b.result
weighed c = record { valid = c.agents-n.ensures.valid; easy = c.easy_weight-a.ensures; difficult = c.difficult_weight-b.ensures }

pub greatest_in_byte-most-requires : goal.greatest_in_byte-most-requires
greatest_in_byte-most-requires c = column_eight c.requires.column (weighed (goal.at.greatest_in_byte-most-requires c).After-difficult_weight-b)

pub loop-i-init : goal.loop-i-init
loop-i-init c = rewritten_none _ _ _

pub row_byte-byte-requires : goal.row_byte-byte-requires
row_byte-byte-requires c =
    let w = weighed (goal.at.row_byte-byte-requires c).After-difficult_weight-b in
    record { agent = omega (arith, c.loop-i-test.true, c.agents-n.ensures.is); byte = column_byte c.requires.column w _ c.greatest_in_byte-most.ensures c.if-known-most.true }

pub greatest_in_byte-requires : goal.greatest_in_byte-requires
greatest_in_byte-requires c = column_eight c.requires.column (weighed (goal.at.greatest_in_byte-requires c).After-difficult_weight-b)

pub loop-i-preserved : goal.loop-i-preserved
loop-i-preserved c =
    let loop = c.loop-i in
    let col = c.requires.column in
    let at = weighed (goal.at.loop-i-preserved c).After-difficult_weight-b in
    let agent : loop.i < agents_of c.args.sheet.now = omega (arith, c.loop-i-test.true, c.agents-n.ensures.is) in
    let same = loop.invariant.rest loop.i (le_refl _) in
    let known = c.requires.greatest.each loop.i agent in
    let room : loop.i < length c.args.greatest.now = omega (arith, c.requires.greatest.size, agent, c.agents-n.ensures.valid.agents_fit) in
    elim c.if-known-most.branch [
      | then-known-most w ↦ rw w.greatest-is (rewritten_set loop.invariant room refl (column_read col at _ (same ∙ known) w.row_byte-byte.ensures w.greatest_in_byte.ensures))
      | else-known-most w ↦ rw w.greatest-is (rewritten_keep loop.invariant room (sym same ∙ column_passed col at _ (same ∙ known) c.greatest_in_byte-most.ensures w.if-known-most.false))
    ]

pub returns : goal.returns
returns c =
    let loop = c.loop-i in
    let all : loop.i ≡ agents_of c.args.sheet.now = omega (arith, c.agents-n.ensures.is) in
    record { size = loop.invariant.sized ∙ c.requires.greatest.size; each = rewritten_at (rw all at loop.invariant) }
