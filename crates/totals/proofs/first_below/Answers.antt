use Rattle.std.proofs.Common.{rules, tests, ltb, get_or}
use Rattle.finite.proofs.Found.{found_in}
use Rattle.totals.proofs.first_below.Goals as goal

pub returns : goal.returns
returns c = found_in c.args.n (λ i. ltb (get_or c.args.sums.now i 0) c.args.limit) _ _ c.find.result c.find.ensures.ran (λ x b q k. search (rules, tests))
