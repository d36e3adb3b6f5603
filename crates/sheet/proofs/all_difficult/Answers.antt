-- `sheet::all_difficult` meets its contract: as many difficult marks as chores.
use mathlib.Core.Path.{sym}
use Rattle.sheet.proofs.Marks.{all_difficult_count}
use Rattle.sheet.proofs.all_difficult.Goals as goal

pub returns : goal.returns
returns c = rw c.difficult_marks.ensures (sym (all_difficult_count c.requires))
