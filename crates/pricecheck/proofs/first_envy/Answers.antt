-- `pricecheck::first_envy` meets its contract: a search for the second agent of a pair, within a search for the first.
use Rattle.std.proofs.Common.{rules, tests}
use Rattle.pricecheck.specs.Parts.{above}
use Rattle.pricecheck.proofs.Searched.{pair_at, found_map_in, pair_in}
use Rattle.pricecheck.proofs.first_envy.Goals as goal

pub returns : goal.returns
unfolding above
returns c =
    let n = c.args.n in
    let envies = above c.args.ups.now c.args.sums.now in
    pair_in n envies _ (found_map_in n (pair_at n envies) _ c.find_map.result c.find_map.ensures.runs (λ x b q k. search (rules, tests)))
