-- `firsts::table::Table::lose` meets its contract.
use Rattle.std.proofs.Common.{◌<◌, length, rules}
use Rattle.firsts.proofs.Losing.{lost}
use Rattle.firsts.proofs.table.Table.lose.Goals as goal

pub returns : goal.returns
returns c =
    let pre = c.requires in
    let room : c.args.w < length c.args.self.now.sets = search rules in
    let searched = c.search_on-left.ensures in
    rw searched.sets (lost c.args.self.now.sets pre.listed.2 pre.listed.1 room pre.set_of c.not_before-missing.ensures searched.row c.put.ensures)
