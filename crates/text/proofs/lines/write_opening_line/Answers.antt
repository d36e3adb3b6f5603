use Rattle.text.specs.Lines.{opening_line}
use Rattle.text.proofs.lines.write_opening_line.Goals as goal

pub returns : goal.returns
unfolding opening_line
returns g c = c.write_agents_line.ensures
