use Rattle.text.specs.Text.{ascii}
use Rattle.text.specs.Lines.{total_line}
use Rattle.text.proofs.Sending.{two_fields}
use Rattle.text.proofs.lines.write_total_line.Goals as goal

pub returns : goal.returns
unfolding total_line
returns g c = rw (two_fields (ascii "total moves ") _ c.ranges.moves.fits (ascii " cuts ") _ c.ranges.cuts.fits) c.writeln.ensures.bytes
