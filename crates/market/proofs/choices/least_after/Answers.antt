use Rattle.std.proofs.Common.{length, get_or, ltb, arith, rules, tests}
use Rattle.std.proofs.lemmas.Iterator.{YieldsList-from_range}
use Rattle.std.proofs.lemmas.Iterator.Consumers.{YieldsList-from_filter}
use Rattle.finite.proofs.Chosen.{smaller_order}
use Rattle.finite.proofs.Reduced.{best_in}
use Rattle.market.specs.Market.{group_of}
use Rattle.market.proofs.choices.least_after.Goals as goal

pub returns : goal.returns
unfolding group_of
returns c =
    let n = length c.args.groups.now in
    best_in (smaller_order (λ i. get_or c.args.sums.now i 0)) n (λ i. ltb c.args.stage (get_or c.args.groups.now i 0)) _ _ (λ b i v q k. search (rules, tests)) c.reduce.result c.reduce.ensures.ran
    (YieldsList-from_filter _ (λ i. ltb c.args.stage (get_or c.args.groups.now i 0)) (YieldsList-from_range 0 n n c.filter.ensures.source (omega arith)) c.filter.ensures.closure (λ x b q k. search (rules, tests)))
