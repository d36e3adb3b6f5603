use Rattle.std.proofs.Common.{ℕ, ◌+◌, ◌*◌, ◌≡◌, List, map, get_or, refl, ◌∙◌, rules, tests}
use Rattle.std.specs.List.{sum, range_with_len}
use Rattle.std.proofs.lemmas.Iterator.{YieldsList-from_range, YieldsList-from_map}
use Rattle.std.proofs.lemmas.Iterator.Consumers.{sum_from_yields_List, fits_from_yields_list}
use Rattle.finite.specs.Sums.{sum_to}
use Rattle.model.specs.Limits.{max_agents}
use Rattle.totals.specs.Lanes.{lane_count, lane_sum}
use Rattle.totals.proofs.lanes.lane_sum.Goals as goal

abbrev lane : List ℕ → ℕ → ℕ → ℕ
lane lanes i q = get_or lanes (max_agents * q + i) 0

added : (lanes : List ℕ) (i : ℕ) → sum (map (lane lanes i) (range_with_len 0 lane_count)) ≡ lane_sum lanes i
unfolding lane_sum sum_to
added lanes i = refl

pub sum-requires-clause-fits : goal.sum-requires-clause-fits
sum-requires-clause-fits c =
    fits_from_yields_list c.map.result _
    (YieldsList-from_map _ (lane c.args.lanes.now c.args.i) (YieldsList-from_range 0 lane_count lane_count c.map.ensures.source refl) c.map.ensures.closure (λ x r q k. search (rules, tests)))
    (rw (added c.args.lanes.now c.args.i) c.requires.1)

pub returns : goal.returns
returns c =
    sum_from_yields_List c.map.result _ c.sum.ensures.ran
    (YieldsList-from_map _ (lane c.args.lanes.now c.args.i) (YieldsList-from_range 0 lane_count lane_count c.map.ensures.source refl) c.map.ensures.closure (λ x r q k. search (rules, tests)))
    ∙ added c.args.lanes.now c.args.i
