use Rattle.std.proofs.Common.{refl, arith, rules}
use Rattle.runs.proofs.Counting.{Counting, count-move, count-pass, count_cut}
use Rattle.runs.proofs.Running.{groups_sized_lem, turning, starts, counting, ends_here, sees_on, runs_on, falls}
use Rattle.runs.proofs.take_turns.Goals as goal
use Rattle.runs.proofs.take_turns.Goals.{After-step}

pub begin-at-requires : goal.begin-at-requires
begin-at-requires c =
    let pre = c.requires.kit in
    (pre.0.valid, groups_sized_lem pre.0.valid pre.1)

pub loop-chore-init : goal.loop-chore-init
loop-chore-init c =
    let pre = c.requires in
    record { kit = pre.kit.0; running = starts c.begin-at.ensures pre.kit.1; tabled = pre.tabled.0; sees = c.begin-at.ensures.sees; scratch_sized = pre.tabled.1 }

pub step-requires-clause-turning : goal.step-requires-clause-turning
step-requires-clause-turning c = let inv = c.loop-chore.invariant in turning inv.kit.valid inv.running inv.kit inv.tabled

-- what the turn is counted from
from : (c : After-step) → Counting c.args.sheet.now c.step.new.groups c.step.result c.loop-chore.at
from c = let inv = c.loop-chore.invariant in counting inv.kit.valid c.loop-chore.at inv.running c.step.ensures (search rules)

pub note-requires : goal.note-requires
note-requires c = (from (goal.at.note-requires c).After-step).numbers _ _ _ c.in-Moved.is

pub overflow_add-at : goal.overflow_add-at
overflow_add-at c = record { fits = omega (arith, (from (goal.at.overflow_add-at c).After-step).moves_fit) }

pub overflow_sub-at : goal.overflow_sub-at
overflow_sub-at c = (from (goal.at.overflow_sub-at c).After-step).stage_left c.in-Passed.is

pub overflow_add-at-in-Cut : goal.overflow_add-at-in-Cut
overflow_add-at-in-Cut c = record { fits = omega (arith, (from (goal.at.overflow_add-at-in-Cut c).After-step).cuts_fit) }

pub view_of-at-requires : goal.view_of-at-requires
view_of-at-requires c = let counting = from (goal.at.view_of-at-requires c).After-step in (counting.valid, counting.groups_sized)

pub loop-chore-smaller-in-Moved : goal.loop-chore-smaller-in-Moved
loop-chore-smaller-in-Moved c =
    let inv = c.loop-chore.invariant in
    falls inv.kit.valid c.loop-chore.at inv.running c.step.ensures (count-move c.in-Moved.is refl refl refl refl c.note.ensures) (λ e. let is = c.in-Moved.is in cc)

pub loop-chore-preserved-in-Moved : goal.loop-chore-preserved-in-Moved
loop-chore-preserved-in-Moved c =
    let inv = c.loop-chore.invariant in
    let counted = count-move c.in-Moved.is refl refl refl refl c.note.ensures in
    record {
      kit = inv.kit;
      running = runs_on inv.kit.valid c.loop-chore.at inv.running c.step.ensures counted (λ e. let is = c.in-Moved.is in cc);
      tabled = c.step.ensures.tabled;
      sees = sees_on inv.kit.valid c.loop-chore.at inv.running c.step.ensures counted inv.sees;
      scratch_sized = search rules;
    }

pub loop-chore-smaller-in-Passed : goal.loop-chore-smaller-in-Passed
loop-chore-smaller-in-Passed c =
    let inv = c.loop-chore.invariant in
    falls inv.kit.valid c.loop-chore.at inv.running c.step.ensures (count-pass c.in-Passed.is refl refl refl refl refl) (λ e. let is = c.in-Passed.is in cc)

pub loop-chore-preserved-in-Passed : goal.loop-chore-preserved-in-Passed
loop-chore-preserved-in-Passed c =
    let inv = c.loop-chore.invariant in
    let counted = count-pass c.in-Passed.is refl refl refl refl refl in
    record {
      kit = inv.kit;
      running = runs_on inv.kit.valid c.loop-chore.at inv.running c.step.ensures counted (λ e. let is = c.in-Passed.is in cc);
      tabled = c.step.ensures.tabled;
      sees = sees_on inv.kit.valid c.loop-chore.at inv.running c.step.ensures counted inv.sees;
      scratch_sized = search rules;
    }

pub loop-chore-smaller : goal.loop-chore-smaller
loop-chore-smaller c =
    let inv = c.loop-chore.invariant in
    falls inv.kit.valid c.loop-chore.at inv.running c.step.ensures (count_cut c.in-Cut.is refl refl refl c.view_of-at.ensures refl) (λ e. let is = c.in-Cut.is in cc)

pub loop-chore-preserved : goal.loop-chore-preserved
loop-chore-preserved c =
    let inv = c.loop-chore.invariant in
    let counted = count_cut c.in-Cut.is refl refl refl c.view_of-at.ensures refl in
    record {
      kit = inv.kit;
      running = runs_on inv.kit.valid c.loop-chore.at inv.running c.step.ensures counted (λ e. let is = c.in-Cut.is in cc);
      tabled = c.step.ensures.tabled;
      sees = sees_on inv.kit.valid c.loop-chore.at inv.running c.step.ensures counted inv.sees;
      scratch_sized = search rules;
    }

pub returns-in-Ended : goal.returns-in-Ended
returns-in-Ended c =
    let inv = c.loop-chore.invariant in
    ends_here inv.kit.valid c.loop-chore.at inv.running c.step.ensures c.in-Ended.is
