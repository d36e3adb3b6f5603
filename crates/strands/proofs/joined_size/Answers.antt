-- `strands::joined_size` meets its contract: a row after the last would start there.
use mathlib.Core.Path.{sym, ◌∙◌}
use native.Mathlib.Omega.{arith}
use Rattle.sheet.proofs.Strands.{joined_long}
use Rattle.strands.proofs.Refusals.{joinable_headers}
use Rattle.strands.proofs.joined_size.Goals as goal

pub joined_chores-requires : goal.joined_chores-requires
joined_chores-requires c = joinable_headers c.requires

pub agents-requires : goal.agents-requires
agents-requires c = c.requires.valid_first.header

pub row_start-requires : goal.row_start-requires
row_start-requires c = let few = c.requires.fits in record { m_bound = omega (arith, few, c.joined_chores.ensures); i_bound = omega (arith, c.agents.ensures.below) }

pub returns : goal.returns
returns c =
    c.row_start.ensures
    ∙ rw (c.agents.ensures.is, c.joined_chores.ensures) (sym (joined_long c.requires))
