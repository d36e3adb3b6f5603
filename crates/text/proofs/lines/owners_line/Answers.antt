use Rattle.std.proofs.Common.{arith}
use Rattle.text.specs.Lines.{owners_line}
use Rattle.text.proofs.Putting.{put_more}
use Rattle.text.proofs.lines.owners_line.Goals as goal

pub returns : goal.returns
unfolding owners_line
returns c = put_more c.agents_line.ensures (omega arith)
