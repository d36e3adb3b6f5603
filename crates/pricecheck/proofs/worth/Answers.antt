-- `pricecheck::worth` meets its contract, mark by mark: the greatest price times the greatest weight fits.
use Prim.Native.Nat.{◌*◌}
use mathlib.Core.Path.{ap}
use native.Mathlib.Nat.{le_trans, mul-le-mul}
use native.Mathlib.Omega.{arith}
use lib.Dec.{eqb}
use Rattle.finite.proofs.Tests.{cond-le}
use Rattle.pricecheck.proofs.Worths.{weight_left}
use Rattle.pricecheck.proofs.worth.Goals as goal

pub overflow_sub-result : goal.overflow_sub-result
overflow_sub-result c = (weight_left _ _ (eqb c.args.mark 1) c.mark_cost-cost.ensures).0

pub overflow_mul-result : goal.overflow_mul-result
overflow_mul-result c =
    let t = eqb c.args.mark 1 in
    let pre = c.requires in
    let fits = cond-le t (λ _. le_trans pre.marked.easier pre.fits) (λ _. pre.fits) in
    rw (weight_left _ _ t c.mark_cost-cost.ensures).1 (omega (arith, mul-le-mul pre.priced fits))

pub returns : goal.returns
returns c = ap (λ v. c.args.price * v) (weight_left _ _ (eqb c.args.mark 1) c.mark_cost-cost.ensures).1
