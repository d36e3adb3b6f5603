-- The line's parts, one after the other.
use Rattle.text.specs.Lines.{total_line}
use Rattle.text.proofs.Putting.{put_then, any_field}
use Rattle.text.proofs.lines.total_line.Goals as goal

pub returns : goal.returns
unfolding total_line
returns c = put_then (put_then (any_field c.ranges.moves.fits c.field-a.ensures) (any_field c.ranges.cuts.fits c.field-b.ensures)) c.end_line.ensures
