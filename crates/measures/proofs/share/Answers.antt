-- `measures::share` meets its contract: the costliest bundle when difficult chores are dealt, and then easy ones.
use Rattle.std.proofs.Common.{refl}
use Rattle.sheet.specs.Readers.{SheetRead}
use Rattle.measures.proofs.Measuring.{few-marks, first_dealing, second_dealing, share_found}
use Rattle.measures.proofs.share.Goals as goal
use Rattle.measures.proofs.share.Goals.{After-chores}

sized : (c : After-chores) → SheetRead c.args.sheet.now c.agents-n.result c.chores.result
sized c = record { valid = c.chores.ensures.valid; agents = c.agents-n.ensures.is; chores = c.chores.ensures.is }

pub overflow_sub-easy : goal.overflow_sub-easy
overflow_sub-easy c = few-marks (sized (goal.at.overflow_sub-easy c).After-chores) _ c.difficult_marks-difficult.ensures

pub deal-requires : goal.deal-requires
deal-requires c = first_dealing (sized (goal.at.deal-requires c).After-chores) _ c.difficult_marks-difficult.ensures c.difficult_weight.ensures refl

pub deal-requires-2 : goal.deal-requires-2
deal-requires-2 c =
    second_dealing (sized (goal.at.deal-requires-2 c).After-chores) _ c.difficult_marks-difficult.ensures c.difficult_weight.ensures refl c.easy_weight.ensures c.deal.ensures

pub returns : goal.returns
returns c =
    share_found (sized (goal.at.returns c).After-chores) _ c.difficult_marks-difficult.ensures c.difficult_weight.ensures refl c.easy_weight.ensures c.deal.ensures c.requires.divides c.deal-2.ensures c.costliest.ensures
