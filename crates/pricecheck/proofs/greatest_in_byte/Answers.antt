use mathlib.Core.Path.{◌≡◌, ◌∙◌}
use native.Mathlib.Omega.{arith}
use Rattle.finite.proofs.Extremes.{top_zero}
use Rattle.pricecheck.specs.Worths.{worth_in}
use Rattle.pricecheck.proofs.Worths.{place_weighable, place_next}
use Rattle.pricecheck.proofs.greatest_in_byte.Goals as goal

pub loop-j-init : goal.loop-j-init
loop-j-init c = let at = c.args in omega (arith, top_zero (worth_in at.a at.b at.prices.now at.first at.byte))

pub worth-requires : goal.worth-requires
worth-requires c = place_weighable c.requires _ _ c.mark_in.ensures c.loop-j-test.true

pub loop-j-preserved : goal.loop-j-preserved
loop-j-preserved c = c.max-greatest.ensures ∙ place_next c.requires _ _ c.mark_in.ensures _ c.loop-j.invariant c.worth.ensures

pub returns : goal.returns
returns c =
    let all : c.loop-j.j ≡ c.args.count = omega arith in
    rw all at c.loop-j.invariant
