use mathlib.Core.Path.{ap, ◌∙◌}
use native.Mathlib.Omega.{arith}
use native.Mathlib.Nat.{le_trans}
use lib.ListN.{get_or}
use Rattle.measures.specs.Dealing.{cheapest, dealt_on}
use Rattle.measures.proofs.Levels.{cheapest_below}
use Rattle.measures.proofs.Dealing.{dealt_start, dealing_on, level_more}
use Rattle.measures.proofs.deal.Goals as goal

pub loop-left-init : goal.loop-left-init
loop-left-init c = (omega arith, dealt_start c.args.n c.args.weight c.args.count c.args.costs.now)

pub first_least-requires : goal.first_least-requires
first_least-requires c = (c.requires.some, c.requires.agents)

pub offset_bounds-costs-first_least : goal.offset_bounds-costs-first_least
unfolding cheapest
offset_bounds-costs-first_least c =
    let pre = c.requires in
    omega (arith, c.first_least.ensures, cheapest_below c.loop-left.costs pre.some, pre.agents)

pub bounds-costs-first_least : goal.bounds-costs-first_least
unfolding cheapest
bounds-costs-first_least c =
    let pre = c.requires in
    omega (arith, c.first_least.ensures, cheapest_below c.loop-left.costs pre.some, pre.agents)

pub deal_level-left-requires : goal.deal_level-left-requires
unfolding cheapest
deal_level-left-requires c = let loop = c.loop-left in record { dealing = dealing_on c.requires loop.invariant.0 loop.invariant.1; least_value = ap (λ k. get_or loop.costs k 0) c.first_least.ensures }

pub loop-left-smaller : goal.loop-left-smaller
loop-left-smaller c = c.deal_level-left.ensures.fewer (omega arith)

pub loop-left-preserved : goal.loop-left-preserved
loop-left-preserved c =
    let loop = c.loop-left in
    let told = c.deal_level-left.ensures in
    (le_trans told.remain loop.invariant.0, level_more c.requires loop.invariant.0 loop.invariant.1 told)

pub returns : goal.returns
returns c =
    let loop = c.loop-left in
    let args = c.args in
    loop.invariant.1 ∙ ap (λ k. dealt_on args.n args.weight k args.costs.now) (omega arith)
