-- The line's parts, one after the other.
use Rattle.text.specs.Lines.{sheet_line}
use Rattle.text.proofs.Putting.{put_then, any_field}
use Rattle.text.proofs.lines.sheet_line.Goals as goal

pub returns : goal.returns
unfolding sheet_line
returns c = put_then (put_then (put_then (any_field c.ranges.number.fits c.field-a.ensures) (any_field c.ranges.moves.fits c.field-b.ensures)) (any_field c.ranges.cuts.fits c.field-c.ensures)) c.end_line.ensures
