use Rattle.std.proofs.lemmas.Result.{on_ok_weaker}
use Rattle.text.proofs.Parts.{line_gone}
use Rattle.text.proofs.lines.write_agents_line.Goals as goal

pub returns : goal.returns
returns g c = on_ok_weaker _ (line_gone _ _ _ _ _ _ c.in_ok-write_all.ensures.bytes c.in_ok-write_agents.ensures) c.write_all-2.ensures.bytes
