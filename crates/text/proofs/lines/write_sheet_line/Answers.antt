use Rattle.text.specs.Text.{ascii}
use Rattle.text.specs.Lines.{sheet_line}
use Rattle.text.proofs.Sending.{three_fields}
use Rattle.text.proofs.lines.write_sheet_line.Goals as goal

pub returns : goal.returns
unfolding sheet_line
returns g c = rw (three_fields (ascii "sheet ") _ c.ranges.number.fits (ascii " moves ") _ c.ranges.moves.fits (ascii " cuts ") _ c.ranges.cuts.fits) c.writeln.ensures.bytes
