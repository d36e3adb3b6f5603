use Prim.Native.Nat.{◌<◌, ◌≤◌}
use mathlib.Core.Logic.{inl, inr}
use mathlib.Core.Path.{◌≡◌, ◌∙◌}
use native.Mathlib.Omega.{arith}
use lib.ListN.{length, take}
use Rattle.std.proofs.lemmas.List.{take-append-drop, length-take-le, get_or_append_left, set-append_left, set-get_or}
use Rattle.measures.specs.Dealing.{added_to}
use Rattle.measures.proofs.Dealing.{passed_none, passed_small, passed_on, passed_dealt, passed_all}
use Rattle.measures.proofs.deal_level.Goals as goal
use Rattle.measures.proofs.deal_level.Goals.{else-cost-least, then-cost-least+else-left-eq0, At-loop-cost}

-- the bundles are the first n entries of the list
bundles : (c : At-loop-cost) → length (take c.args.n c.args.costs.now) ≡ c.args.n
bundles c =
    let room : c.args.n ≤ length c.args.costs.now = omega (arith, c.requires.dealing.agents) in
    length-take-le c.args.n c.args.costs.now room

pub loop-cost-init : goal.loop-cost-init
loop-cost-init c = rw (take-append-drop c.args.n c.args.costs.now) (passed_none c.requires.dealing c.requires.least_value)

pub overflow_add-cost : goal.overflow_add-cost
overflow_add-cost c =
    let loop = c.loop-cost in
    let more : loop.cost-index < c.args.n = omega (arith, bundles (goal.at.overflow_add-cost c).At-loop-cost) in
    let inside : loop.cost-index < length loop.cost-items = omega arith in
    record { fits = rw (get_or_append_left loop.cost-items _ 0 loop.cost-index inside) at (passed_small c.requires.dealing loop.invariant more (omega arith)) }

pub loop-cost-preserved : goal.loop-cost-preserved
unfolding added_to
loop-cost-preserved c =
    let loop = c.loop-cost in
    let more : loop.cost-index < c.args.n = omega (arith, bundles (goal.at.loop-cost-preserved c).At-loop-cost) in
    let inside : loop.cost-index < length loop.cost-items = omega arith in
    let same = get_or_append_left loop.cost-items _ 0 loop.cost-index inside in
    elim c.if-cost-least.branch [
      | then-cost-least+else-left-eq0 w ↦ rw (w.cost-items-is, w.left-is, ← set-append_left loop.cost-items _ loop.cost-index _ inside, ← same) (passed_dealt c.requires.dealing loop.invariant more (same ∙ w.if-cost-least.true) (omega arith))
      | else-cost-least w ↦ rw (w.cost-items-is, w.left-is, set-get_or loop.cost-items loop.cost-index 0) (passed_on c.requires.dealing loop.invariant more (rw same w.if-cost-least.false))
    ]

pub returns-then-left-eq0 : goal.returns-then-left-eq0
returns-then-left-eq0 c =
    rw (set-get_or c.loop-cost.cost-items c.loop-cost.cost-index 0) (passed_all c.requires.dealing c.requires.least_value c.loop-cost.invariant (inl c.if-left-eq0.true))

pub returns-after-loop-cost : goal.returns-after-loop-cost
returns-after-loop-cost c = passed_all c.requires.dealing c.requires.least_value c.loop-cost.invariant (inr (omega (arith, bundles (goal.at.returns-after-loop-cost c).At-loop-cost)))
