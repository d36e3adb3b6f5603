-- `firsts::table::Table::hand_on` meets its contract.
use Rattle.std.proofs.Common.{refl}
use Rattle.model.specs.Instance.{owner_of}
use Rattle.firsts.proofs.Handing.{handed_on}
use Rattle.firsts.proofs.table.Table.hand_on.Goals as goal

pub returns : goal.returns
unfolding owner_of
returns c =
    let pre = c.requires in
    handed_on c.args.owners.now pre.1 refl pre.2 c.traits-word.ensures c.lose.ensures c.gain.ensures
