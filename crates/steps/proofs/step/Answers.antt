-- `steps::step` meets its contract.
use mathlib.Core.Path.{refl, ap, ◌∙◌}
use lib.ListN.{length}
use Rattle.finite.proofs.Lists.{tab_length}
use Rattle.steps.proofs.Ready.{filling}
use Rattle.steps.proofs.Tables.{looking, refilling}
use Rattle.steps.proofs.Stepped.{cutting}
use Rattle.steps.proofs.Stepping.{handing, moves_on, passes, cuts_on, stops_here}
use Rattle.steps.proofs.step.Goals as goal

pub seek-requires-clause-looking : goal.seek-requires-clause-looking
seek-requires-clause-looking c = let pre = c.requires in looking pre.views.0 pre.turning.ready pre.turning.tabled

pub hand_over-requires : goal.hand_over-requires
hand_over-requires c =
    let due = c.in-Hand.ensures in
    handing c.requires.turning due.1 due.0 c.requires.views.0

pub returns-in-Hand : goal.returns-in-Hand
returns-in-Hand c =
    let due = c.in-Hand.ensures in
    moves_on c.requires.turning due.1 due.0 c.requires.views.0 c.hand_over.ensures

pub returns-in-Pass : goal.returns-in-Pass
returns-in-Pass c = let due = c.in-Pass.ensures in passes c.requires.turning due.1 due.0

pub cut-requires : goal.cut-requires
cut-requires c =
    let pre = c.requires in
    cutting pre.turning (c.in-Cut.ensures.1.size ∙ pre.views.1)

pub fill_table-requires : goal.fill_table-requires
fill_table-requires c =
    let turning = c.requires.turning in
    refilling (filling turning.ready turning.tabled.sized) c.cut.ensures.cut (ap length c.cut.ensures.grouped ∙ tab_length _ _)

pub returns-in-Cut : goal.returns-in-Cut
returns-in-Cut c = let due = c.in-Cut.ensures in cuts_on c.requires.turning due.1 due.0 refl c.cut.ensures c.fill_table.ensures

pub returns-in-End : goal.returns-in-End
returns-in-End c = let due = c.in-End.ensures in stops_here c.requires.turning due.1 due.0 refl
