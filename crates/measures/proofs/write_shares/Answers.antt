use Rattle.std.proofs.Common.{◌≡◌, ◌<◌, sym, ap, ◌∙◌, set, length, arith}
use native.Mathlib.Nat.{le_of_eq}
use lib.Seq.{take_all}
use Rattle.finite.proofs.Lists.{over_next}
use Rattle.model.specs.MaximinShare.{measures_of}
use Rattle.model.specs.Sheet.{agents_of}
use Rattle.measures.proofs.Answering.{measures_long, measures_at}
use Rattle.measures.proofs.write_shares.Goals as goal

pub loop-i-preserved : goal.loop-i-preserved
loop-i-preserved c =
    let loop = c.loop-i in
    let s = c.args.sheet.now in
    let numbers = c.args.numbers.now in
    let agent : loop.i < agents_of s = omega (arith, c.agents-i-end.ensures.is) in
    let inside : loop.i < length (measures_of s) = rw (measures_long s) agent in
    ap (λ xs. set xs loop.i c.share.result) loop.invariant
    ∙ over_next (measures_of s) numbers inside (omega (arith, c.agents-i-end.ensures.valid.agents_fit)) (c.share.ensures ∙ sym (measures_at s loop.i agent))

pub returns : goal.returns
returns c =
    let s = c.args.sheet.now in
    let all : c.loop-i.i ≡ agents_of s = omega (arith, c.agents-i-end.ensures.is) in
    rw (c.loop-i.invariant, all, take_all (agents_of s) (measures_of s) (le_of_eq (measures_long s)))
