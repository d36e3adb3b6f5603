use Rattle.std.proofs.Common.{◌≡◌, refl, ◌∙◌, arith}
use Rattle.finite.proofs.Rewriting.{rewritten_none, rewritten_set, rewritten_at}
use Rattle.firsts.proofs.dearest.rests.Goals as goal

pub loop-i-init : goal.loop-i-init
loop-i-init c = rewritten_none _ _ _

pub rest-requires : goal.rest-requires
rest-requires c = c.requires.part c.loop-i.i (omega arith)

pub loop-i-preserved : goal.loop-i-preserved
loop-i-preserved c = rewritten_set c.loop-i.invariant (omega (arith, c.requires.ups_sized, c.requires.agents)) refl c.rest.ensures

pub returns : goal.returns
returns c =
    let loop = c.loop-i in
    let all : loop.i ≡ c.args.n = omega arith in
    record { size = loop.invariant.sized ∙ c.requires.ups_sized; rest = rewritten_at (rw all at loop.invariant) }
