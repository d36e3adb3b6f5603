-- `strands::strand_sheet` meets its contract.
use mathlib.Core.Path.{sym, ◌∙◌}
use Rattle.model.specs.Strands.{strand_sheet}
use Rattle.strands.proofs.strand_sheet.Goals as goal

pub returns-then-in_first : goal.returns-then-in_first
unfolding strand_sheet
returns-then-in_first c = let held = sym c.in_first.ensures ∙ c.if-in_first.true in sym (rw held)

pub returns-else-in_first : goal.returns-else-in_first
unfolding strand_sheet
returns-else-in_first c = let held = sym c.in_first.ensures ∙ c.if-in_first.false in sym (rw held)
