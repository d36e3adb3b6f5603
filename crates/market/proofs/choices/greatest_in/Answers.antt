use Rattle.std.proofs.Common.{length, get_or, eqb, arith, rules, tests}
use Rattle.std.proofs.lemmas.Iterator.{YieldsList-from_range}
use Rattle.std.proofs.lemmas.Iterator.Consumers.{YieldsList-from_filter}
use Rattle.finite.proofs.Chosen.{greater_order}
use Rattle.finite.proofs.Reduced.{best_in}
use Rattle.market.specs.Market.{group_of}
use Rattle.market.proofs.choices.greatest_in.Goals as goal

pub returns : goal.returns
unfolding group_of
returns c =
    let n = length c.args.groups.now in
    best_in (greater_order (λ i. get_or c.args.ups.now i 0)) n (λ i. eqb (get_or c.args.groups.now i 0) c.args.stage) _ _ (λ b i v q k. search (rules, tests)) c.reduce.result c.reduce.ensures.ran
    (YieldsList-from_filter _ (λ i. eqb (get_or c.args.groups.now i 0) c.args.stage) (YieldsList-from_range 0 n n c.filter.ensures.source (omega arith)) c.filter.ensures.closure (λ x b q k. search (rules, tests)))
