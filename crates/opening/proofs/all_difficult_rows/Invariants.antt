-- `opening::all_difficult_rows` meets its contract. The loop's invariant: the word holds those of the agents passed whose row is all difficult.
use Rattle.finite.specs.Bits.{SetOf}
use Rattle.model.specs.Sheet.{all_difficult}
use Rattle.opening.proofs.all_difficult_rows.Given as goal

abbrev pub invariant-loop-i : goal.invariant-loop-i
invariant-loop-i l = SetOf l.i l.w (all_difficult l.sheet)
