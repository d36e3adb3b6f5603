use Rattle.cstrands.proofs.Telling.{told_size, told_refusal}
use Rattle.cstrands.proofs.join.Goals as goal

pub returns-in-Ok : goal.returns-in-Ok
returns-in-Ok c = told_size c.in-Ok.ensures

pub returns-in-Err : goal.returns-in-Err
returns-in-Err c = told_refusal c.in-Err.ensures c.from.ensures
