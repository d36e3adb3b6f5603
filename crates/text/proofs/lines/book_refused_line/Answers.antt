-- The line's parts, one after the other.
use Rattle.text.specs.Lines.{book_refused_line}
use Rattle.text.proofs.Putting.{put_then, any_field}
use Rattle.text.proofs.lines.book_refused_line.Goals as goal

pub returns : goal.returns
unfolding book_refused_line
returns c = put_then (any_field c.ranges.refusal.fits c.field-a.ensures) c.end_line.ensures
