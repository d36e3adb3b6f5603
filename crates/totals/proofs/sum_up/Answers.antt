use Rattle.std.proofs.Common.{◌≡◌, ◌<◌, length, le_of_lt, arith}
use Rattle.totals.proofs.Summing.{added_none, added_parts, added_raised, added_kept, sum_fits, summed}
use Rattle.totals.proofs.sum_up.Goals as goal
use Rattle.totals.proofs.sum_up.Goals.{then-ups-o, else-ups-o}

pub loop-c-init : goal.loop-c-init
loop-c-init c = added_none c.requires.no_sums c.requires.no_ups

pub overflow_add-sums : goal.overflow_add-sums
overflow_add-sums c =
    let there : c.loop-c.c < length c.args.owners.now = omega arith in
    record { fits = sum_fits c.requires.held there c.loop-c.invariant }

pub loop-c-preserved : goal.loop-c-preserved
loop-c-preserved c =
    let there : c.loop-c.c < length c.args.owners.now = omega arith in
    elim c.if-ups-o.branch [
      | then-ups-o w ↦ rw w.ups-is (added_raised c.requires.held there c.loop-c.invariant (le_of_lt w.if-ups-o.true))
      | else-ups-o w ↦ rw w.ups-is (added_kept c.requires.held there c.loop-c.invariant w.if-ups-o.false)
    ]

pub take_off-requires : goal.take_off-requires
take_off-requires c = added_parts c.loop-c.invariant c.requires.agents

pub returns : goal.returns
returns c =
    let all : c.loop-c.c ≡ length c.args.owners.now = omega arith in
    summed (rw all at c.loop-c.invariant) c.requires.agents c.take_off.ensures
