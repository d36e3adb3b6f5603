use mathlib.Core.Path.{◌≡◌, sym}
use native.Mathlib.Omega.{arith}
use Rattle.finite.proofs.Tests.{and_no_left}
use Rattle.model.specs.Contents.{sheet_start, sheet_end, body_start}
use Rattle.contents.proofs.Bodies.{body_first, body_next, bodies_end, starts_zero, starts_next, starts_fail}
use Rattle.contents.proofs.bodies_fit.Goals as goal

pub loop-j-init : goal.loop-j-init
loop-j-init c =
    let book = c.args.book.now in
    (omega (arith, c.requires.count, body_first book), starts_zero book)

pub returns-then-start_of-end : goal.returns-then-start_of-end
returns-then-start_of-end c =
    let book = c.args.book.now in
    let at = c.loop-j in
    let apart : sheet_start book at.j ≡ body_start book at.j → ⊥ = omega (arith, c.start_of.ensures.is, c.if-start_of-end.true) in
    sym (and_no_left _ (starts_fail book _ at.j (omega arith) apart))

pub loop-j-preserved : goal.loop-j-preserved
unfolding sheet_end
loop-j-preserved c =
    let book = c.args.book.now in
    let at = c.loop-j in
    let start = c.start_of.ensures.is in
    let met : sheet_start book at.j ≡ body_start book at.j = omega (arith, start, c.if-start_of-end.false) in
    (omega (arith, c.size_of-end.ensures.is, body_next book at.j), starts_next book at.j at.invariant.1 met)

pub returns : goal.returns
returns c =
    let book = c.args.book.now in
    let at = c.loop-j in
    let all : at.j ≡ c.args.k = omega arith in
    bodies_end book c.requires.some (rw all at at.invariant.0) (rw all at at.invariant.1)
