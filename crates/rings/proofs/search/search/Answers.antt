use mathlib.Core.Path.{◌≡◌, refl}
use native.Mathlib.Nat.{lt_of_le_of_lt, lt_of_lt_of_le}
use native.Mathlib.Omega.{arith}
use lib.Bits.{and_le_r}
use lib.ListN.{get_or}
use lib.Pow.{pow_mono}
use borrow.Author.Tests.{eq-eqb, ne_eqb}
use Rattle.rings.proofs.Started.{filled_most}
use Rattle.rings.proofs.Rounds.{ring_start, ring_below, ring_further, ring_next, ring_last, agent_first, agent_reached, agent_unwanted, agent_room, agent_take, agent_found}
use Rattle.rings.proofs.search.search.Goals as goal
use Rattle.rings.proofs.search.search.Goals.{then-wanting-ne0+then-scratch-i-eq0+else-ups-i, else-wanting-ne0, else-wanting-ne0-via-then-wanting-ne0+else-scratch-i-eq0, else-wanting-ne0-via-else-wanting-ne0}

pub start-to-requires : goal.start-to-requires
start-to-requires c =
    let pre = c.requires in
    (pre.agents, pre.sums_fit, pre.scratch_sized)

pub rings-init : goal.rings-init
rings-init c = (refl, ring_start c.start-to.ensures)

pub ring-ring-requires : goal.ring-ring-requires
ring-ring-requires c =
    let pre = c.requires in
    let filled = c.rings.invariant.1.filled in
    (pre.agents, omega arith, omega (arith, filled.size, filled_most filled, pre.agents), filled.known)

pub byte_at-further-requires : goal.byte_at-further-requires
byte_at-further-requires c =
    let rings = c.rings in
    let filled = rings.invariant.1.filled in
    let few = c.requires.agents in
    (filled.size, omega (arith, c.rings-test.true, filled_most filled, few), omega (arith, filled.known rings.from c.rings-test.true, few))

pub overflow_add-further : goal.overflow_add-further
overflow_add-further c =
    let inv = c.rings.invariant.1 in
    omega (arith, ring_further inv c.rings-test.true c.byte_at-further.ensures, ring_below inv c.rings-test.true, c.requires.agents)

pub loop-i-init : goal.loop-i-init
loop-i-init c = let rings = c.rings in (rings.invariant.0, agent_first rings.invariant.1 _)

pub overflow_cast-wanting-in-loop-i : goal.overflow_cast-wanting-in-loop-i
overflow_cast-wanting-in-loop-i c =
    let offer = get_or c.args.offers.now c.loop-i.i 0 in
    record { fits = lt_of_le_of_lt (and_le_r offer c.ring-ring.result) (lt_of_lt_of_le c.ring-ring.ensures.below (pow_mono c.requires.agents)) }

pub take_place-requires : goal.take_place-requires
take_place-requires c =
    let few = c.requires.agents in
    (c.loop-i.invariant.1.filled.size, agent_room c.ring-ring.ensures c.loop-i-test.true c.loop-i.invariant.1 few c.if-wanting-ne0.true (eq-eqb _ 0 c.if-scratch-i-eq0.true), omega (arith, few))

pub overflow_add-end : goal.overflow_add-end
overflow_add-end c = omega (arith, filled_most c.loop-i.invariant.1.filled, c.requires.agents)

pub loop-i-preserved : goal.loop-i-preserved
loop-i-preserved c =
    let few = c.requires.agents in
    let here = c.ring-ring.ensures in
    let inv = c.loop-i.invariant.1 in (
      c.loop-i.invariant.0,
      elim c.if-wanting-ne0.branch [
        | then-wanting-ne0+then-scratch-i-eq0+else-ups-i w ↦ rw (w.scratch-is, w.end-is, w.take_place.ensures) (agent_take here c.loop-i-test.true inv few w.if-wanting-ne0.true (eq-eqb _ 0 w.if-scratch-i-eq0.true) (omega arith) w.if-ups-i.false)
        | else-wanting-ne0 w ↦ rw (w.scratch-is, w.end-is) (elim w.else-wanting-ne0.branch [
          | else-wanting-ne0-via-then-wanting-ne0+else-scratch-i-eq0 v ↦ agent_reached here c.loop-i-test.true inv (ne_eqb _ 0 v.if-scratch-i-eq0.false)
          | else-wanting-ne0-via-else-wanting-ne0 v ↦ agent_unwanted here c.loop-i-test.true inv v.if-wanting-ne0.false
        ])
      ],
    )

pub rings-smaller : goal.rings-smaller
rings-smaller c =
    let rings = c.rings in
    omega (arith, filled_most rings.invariant.1.filled)

pub rings-preserved : goal.rings-preserved
rings-preserved c =
    let loop = c.loop-i in
    let inv = c.rings.invariant.1 in
    let all : loop.i ≡ c.args.n = omega arith in
    (loop.invariant.0, ring_next inv c.rings-test.true (ring_further inv c.rings-test.true c.byte_at-further.ensures) (rw all at loop.invariant.1))

pub returns-after-rings : goal.returns-after-rings
returns-after-rings c = rw c.rings.invariant.0 (ring_last c.rings.invariant.1 (omega arith) c.start-to.ensures)

pub returns-then-ups-i : goal.returns-then-ups-i
returns-then-ups-i c =
    let inv = c.rings.invariant.1 in (
      c.loop-i-test.true,
      rw c.take_place.ensures
          (agent_found c.ring-ring.ensures c.loop-i-test.true c.loop-i.invariant.1 c.requires.agents c.if-wanting-ne0.true (eq-eqb _ 0 c.if-scratch-i-eq0.true)
          (ring_further inv c.rings-test.true c.byte_at-further.ensures) (inv.rounds _ c.start-to.ensures) (ring_below inv c.rings-test.true) c.if-ups-i.true),
    )
