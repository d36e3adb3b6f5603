use Rattle.text.proofs.Parts.{none_gone, part_gone}
use Rattle.text.proofs.lines.write_agents.Goals as goal

pub loop-rest-init : goal.loop-rest-init
loop-rest-init g c = none_gone _ c.args.agents.now

pub loop-rest-preserved : goal.loop-rest-preserved
loop-rest-preserved g c = part_gone _ _ _ _ _ c.loop-rest.invariant c.split_at.ensures.by_index.0 c.spaced_u8-end.ensures c.in_ok-write_all.ensures.bytes
