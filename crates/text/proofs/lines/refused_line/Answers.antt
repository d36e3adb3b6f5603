-- The line's parts, one after the other.
use Rattle.text.specs.Lines.{refused_line}
use Rattle.text.proofs.Putting.{put_then, any_field}
use Rattle.text.proofs.lines.refused_line.Goals as goal

pub returns : goal.returns
unfolding refused_line
returns c = put_then (put_then (any_field c.ranges.number.fits c.field-a.ensures) (any_field c.ranges.refusal.fits c.field-b.ensures)) c.end_line.ensures
