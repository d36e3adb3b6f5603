use Rattle.std.proofs.Common.{◌<◌, ◌≡◌, bit_or, get_or, refl, arith}
use Rattle.finite.specs.Bits.{SetOf}
use Rattle.model.specs.Limits.{max_agents}
use Rattle.model.specs.Sheet.{agents_of, chores_of, as_read}
use Rattle.model.specs.Algorithm.{opening_owner}
use Rattle.algorithm.proofs.Opening.{opening_below}
use Rattle.opening.proofs.Opens.{owner_opens, opens_dear, opens_easy, opens_none, easy_next, count_room, opens_next, opens_all}
use Rattle.opening.proofs.open.Goals as goal
use Rattle.opening.proofs.open.Goals.{After-opens_with-owner, else-easy-eq0, then-easy-eq0}

pub loop-c-init : goal.loop-c-init
loop-c-init c = opens_none refl c.requires.owners_sized c.requires.prices_sized c.add_rows.ensures

-- the agents who find the chore easy, and its owner
easy_for : (c : After-opens_with-owner) → SetOf (agents_of c.args.sheet.now) (bit_or (get_or c.loop-c.likes c.loop-c.c 0) c.all_difficult_rows-all.result) (λ i. (as_read c.args.sheet.now).easy i c.loop-c.c)
unfolding as_read
easy_for c = easy_next c.loop-c.invariant (omega (arith, c.chores-c-end.ensures.is)) c.all_difficult_rows-all.ensures

owner_is : (c : After-opens_with-owner) → c.opens_with-owner.result ≡ opening_owner (as_read c.args.sheet.now) c.loop-c.c
owner_is c =
    let told = c.agents-n.ensures in
    owner_opens c.args.sheet.now c.loop-c.c (easy_for c) told.valid.agents_fit c.loop-c.invariant.counted (rw told.is at (c.opens_with-owner.ensures (rw told.is (easy_for c).below)))

owner_fits : (c : After-opens_with-owner) → c.opens_with-owner.result < max_agents
unfolding as_read agents_of
owner_fits c = let valid = c.agents-n.ensures.valid in omega (arith, owner_is c, opening_below (as_read c.args.sheet.now) c.loop-c.c valid.some_agent, valid.agents_fit)

pub offset_bounds-held-owner : goal.offset_bounds-held-owner
offset_bounds-held-owner c = omega (arith, owner_fits (goal.at.offset_bounds-held-owner c).After-opens_with-owner)

pub bounds-held-owner : goal.bounds-held-owner
bounds-held-owner c = owner_fits (goal.at.bounds-held-owner c).After-opens_with-owner

pub overflow_add-held : goal.overflow_add-held
overflow_add-held c =
    let told = c.chores-c-end.ensures in
    record { fits = omega (arith, count_room c.loop-c.invariant (owner_fits (goal.at.overflow_add-held c).After-opens_with-owner), told.is, told.valid.chores_fit) }

pub bounds-held-owner-in-loop-c : goal.bounds-held-owner-in-loop-c
bounds-held-owner-in-loop-c c = owner_fits (goal.at.bounds-held-owner-in-loop-c c).After-opens_with-owner

pub overflow_cast-owners : goal.overflow_cast-owners
overflow_cast-owners c = omega (arith, owner_fits (goal.at.overflow_cast-owners c).After-opens_with-owner)

pub overflow_add-owners : goal.overflow_add-owners
overflow_add-owners c = omega (arith, owner_fits (goal.at.overflow_add-owners c).After-opens_with-owner)

pub loop-c-preserved : goal.loop-c-preserved
loop-c-preserved c =
    let at = (goal.at.loop-c-preserved c).After-opens_with-owner in
    let s = c.args.sheet.now in
    let k = c.loop-c.c in
    let inv = c.loop-c.invariant in
    let l : k < chores_of s = omega (arith, c.chores-c-end.ensures.is) in
    elim c.if-easy-eq0.branch [
      | then-easy-eq0 w ↦ rw (w.prices-is, w.likes-is) (opens_next inv l (owner_is at) (owner_fits at) (opens_dear s k (easy_for at) w.if-easy-eq0.true c.difficult_weight-b.ensures (rw c.agents-n.ensures.is at c.everyone-anyone.ensures)))
      | else-easy-eq0 w ↦ rw (w.prices-is, w.likes-is) (opens_next inv l (owner_is at) (owner_fits at) (opens_easy s k (easy_for at) w.if-easy-eq0.false c.easy_weight-a.ensures c.difficult_weight-b.ensures))
    ]

pub returns : goal.returns
returns c =
    let end : c.loop-c.c ≡ chores_of c.args.sheet.now = omega (arith, c.chores-c-end.ensures.is) in
    opens_all (rw end at c.loop-c.invariant)
