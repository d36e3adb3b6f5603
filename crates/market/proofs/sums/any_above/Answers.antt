-- `market::sums::any_above` meets its contract.
use Rattle.std.proofs.Common.{ltb, get_or, rules, tests}
use Rattle.finite.proofs.Found.{any_in}
use Rattle.market.proofs.sums.any_above.Goals as goal

pub returns : goal.returns
returns c = any_in c.args.n (λ i. ltb c.args.least (get_or c.args.ups.now i 0)) _ _ c.any.result c.any.ensures.ran (λ x b q k. search (rules, tests))
