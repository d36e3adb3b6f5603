use Prim.Native.Nat.{◌*◌, ◌/◌, ◌≤◌, ◌<◌}
use mathlib.Core.Path.{refl, sym, ap, ◌∙◌}
use native.Mathlib.Omega.{arith}
use lib.ListN.{length, get_or}
use native.Mathlib.Nat.{mul-le-mul, le_refl}
use Rattle.model.specs.Limits.{max_price, max_weight}
use Rattle.model.specs.Instance.{owner_of}
use Rattle.finite.proofs.Rewriting.{rewritten_none, rewritten_set, rewritten_skip}
use Rattle.market.proofs.cuts.cut_prices.Goals as goal
use Rattle.market.proofs.cuts.cut_prices.Goals.{else-has, then-has}

pub loop-c-init : goal.loop-c-init
loop-c-init c = (rewritten_none _ _ _, rewritten_none _ _ _)

-- the product with either weight fits: a code that takes the wrong one is refused for the price that it leaves
pub overflow_mul-prices : goal.overflow_mul-prices
overflow_mul-prices c =
    let at = c.loop-c in
    let pre = c.requires in
    let p : get_or at.prices at.c 0 ≤ max_price = omega (arith, at.invariant.0.rest at.c (le_refl at.c), pre.held.bounded at.c c.loop-c-test.true) in
    let w : c.args.a ≤ max_weight = omega (arith, pre.less, pre.weight) in
    omega (arith, mul-le-mul p w, mul-le-mul p pre.weight)

pub loop-c-preserved : goal.loop-c-preserved
unfolding owner_of
loop-c-preserved c =
    let at = c.loop-c in
    let pre = c.requires in
    let l = c.loop-c-test.true in
    let lp : at.c < length c.args.prices.now = omega (arith, pre.held.prices_sized, l) in
    let le : at.c < length c.args.entitled.now = omega (arith, pre.entitled_sized, l) in
    let e = sym c.has.ensures in
    let price = ap (λ p. p * c.args.a / c.args.b) (at.invariant.0.rest at.c (le_refl at.c)) in (
      elim c.if-has.branch [
        | then-has w ↦ rw w.prices-is (rewritten_set at.invariant.0 lp (e ∙ w.if-has.true) price)
        | else-has w ↦ rw w.prices-is (rewritten_skip at.invariant.0 lp (e ∙ w.if-has.false))
      ],
      elim c.if-has.branch [
        | then-has w ↦ rw w.entitled-is (rewritten_set at.invariant.1 le (e ∙ w.if-has.true) refl)
        | else-has w ↦ rw w.entitled-is (rewritten_skip at.invariant.1 le (e ∙ w.if-has.false))
      ],
    )
