use Rattle.std.proofs.Common.{arith}
use Rattle.text.specs.Lines.{opening_line}
use Rattle.text.proofs.Putting.{put_more}
use Rattle.text.proofs.lines.opening_line.Goals as goal

pub returns : goal.returns
unfolding opening_line
returns c = put_more c.agents_line.ensures (omega arith)
