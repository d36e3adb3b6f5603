-- `sheet::marks_easy` meets its contract.
use Rattle.finite.proofs.Packed.{digit_zero}
use Rattle.model.specs.Sheet.{is_difficult, marks_easy}
use Rattle.sheet.proofs.marks_easy.Goals as goal

pub returns : goal.returns
unfolding marks_easy
returns c = rw c.mark_at.ensures (digit_zero (is_difficult c.args.sheet.now c.args.i c.args.c))
