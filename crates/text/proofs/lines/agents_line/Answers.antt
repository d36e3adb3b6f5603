-- The line's parts, one after the other.
use Rattle.std.proofs.Common.{arith}
use Rattle.text.specs.Lines.{list_line}
use Rattle.text.proofs.Putting.{put_then, put_more}
use Rattle.text.proofs.lines.agents_line.Goals as goal

pub returns : goal.returns
unfolding list_line
returns c = put_more (put_then (put_then c.word-a.ensures c.spaced_u8-b.ensures) c.end_line.ensures) (omega arith)
