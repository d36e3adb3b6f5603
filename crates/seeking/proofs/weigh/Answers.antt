-- `seeking::weigh` meets its contract.
use Rattle.seeking.proofs.Ready.{held}
use Rattle.seeking.proofs.Looking.{weighable, summed}
use Rattle.seeking.proofs.weigh.Goals as goal

pub add_up-requires : goal.add_up-requires
add_up-requires c = let pre = c.requires in (held pre.seeing.looking.ready, pre.sums_len.0)

pub rests-requires : goal.rests-requires
rests-requires c =
    let pre = c.requires in
    weighable pre.seeing.looking c.add_up.ensures c.agents.ensures.is pre.sums_len.1

pub returns : goal.returns
returns c = summed c.requires.seeing.looking c.add_up.ensures c.agents.ensures.is c.rests.ensures
