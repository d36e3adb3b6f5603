use Prim.Native.Nat.{◌+◌, ◌<◌}
use mathlib.Core.Path.{◌≡◌, sym}
use native.Mathlib.Omega.{arith}
use Rattle.finite.proofs.Sweeps.{sums_next}
use Rattle.model.specs.Limits.{max_agents}
use Rattle.model.specs.Instance.{cost}
use Rattle.model.specs.Sheet.{chores_of, as_marked}
use Rattle.model.specs.Fairness.{owns, total}
use Rattle.given.proofs.Costs.{cost_fits}
use Rattle.given.proofs.Given.{owner_below, given_weighed}
use Rattle.evenness.proofs.Sums.{sums_fit_lem}
use Rattle.evenness.proofs.Bytes.{byte_cost}
use Rattle.evenness.proofs.add_byte.Goals as goal
use Rattle.evenness.proofs.add_byte.Goals.{After-mark_cost}

-- the chore passed is one of the sheet's, its owner has a sum, and what it costs is known
chore : (c : After-mark_cost) → c.args.first + c.loop-j.j < chores_of c.args.sheet.now
chore c = omega (arith, c.requires.adding.chores)

entry : (c : After-mark_cost) → c.owner-owner.result < max_agents
entry c =
    let g = c.requires.adding.given in
    omega (arith, c.owner-owner.ensures.is, owner_below g _ (chore c), g.valid.agents_fit)

costed : (c : After-mark_cost) → c.mark_cost.result ≡ cost (as_marked c.args.sheet.now) c.args.i (c.args.first + c.loop-j.j)
costed c =
    byte_cost c.requires.adding (given_weighed c.requires.adding.given c.easy_weight-a.ensures c.difficult_weight-b.ensures) c.loop-j.j c.loop-j-test.true c.row_byte-byte.ensures c.mark_in.ensures c.mark_cost.ensures

pub bounds-sums-owner : goal.bounds-sums-owner
bounds-sums-owner c = entry (goal.at.bounds-sums-owner c).After-mark_cost

pub overflow_add-sums : goal.overflow_add-sums
overflow_add-sums c =
    let at = (goal.at.overflow_add-sums c).After-mark_cost in
    let A = c.requires.adding in
    omega (arith, sums_fit_lem A.given _ (chore at) c.loop-j.invariant _ (entry at), costed at, cost_fits (given_weighed A.given c.easy_weight-a.ensures c.difficult_weight-b.ensures) c.args.i (c.args.first + c.loop-j.j))

pub bounds-sums-owner-in-loop-j : goal.bounds-sums-owner-in-loop-j
bounds-sums-owner-in-loop-j c = entry (goal.at.bounds-sums-owner-in-loop-j c).After-mark_cost

pub loop-j-preserved : goal.loop-j-preserved
unfolding total owns
loop-j-preserved c =
    let at = (goal.at.loop-j-preserved c).After-mark_cost in
    let on : c.args.first + c.loop-j.j + 1 ≡ c.args.first + (c.loop-j.j + 1) = omega arith in
    rw (← on) (sums_next _ _ (sym c.owner-owner.ensures.is) c.loop-j.invariant (entry at) (rw (costed at)))
