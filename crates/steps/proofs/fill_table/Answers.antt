-- `steps::fill_table` meets its contract.
use Rattle.steps.proofs.Tables.{tabled_by}
use Rattle.steps.proofs.fill_table.Goals as goal

pub fill-requires : goal.fill-requires
fill-requires c =
    rw c.agents-n.ensures.is c.requires.listed

pub returns : goal.returns
returns c =
    let pre = c.requires in
    tabled_by c.view_of.ensures (rw (c.agents-n.ensures.is, pre.owners_sized) at c.fill.ensures)
