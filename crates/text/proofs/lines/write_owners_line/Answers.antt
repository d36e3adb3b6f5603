use Rattle.text.specs.Lines.{owners_line}
use Rattle.text.proofs.lines.write_owners_line.Goals as goal

pub returns : goal.returns
unfolding owners_line
returns g c = c.write_agents_line.ensures
