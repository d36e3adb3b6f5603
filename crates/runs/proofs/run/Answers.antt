-- `runs::run` meets its contract.
use Rattle.steps.proofs.Ready.{filling}
use Rattle.runs.proofs.Running.{ready}
use Rattle.runs.proofs.run.Goals as goal

pub fill_table-requires : goal.fill_table-requires
fill_table-requires c =
    let pre = c.requires.kit in
    filling (ready pre.0.valid pre.1 pre.0) c.new-table.ensures
