use Rattle.std.proofs.Common.{arith}
use Rattle.text.specs.Text.{ascii}
use Rattle.text.specs.Lines.{refused_line}
use Rattle.text.proofs.Sending.{two_fields}
use Rattle.text.proofs.lines.write_refused_line.Goals as goal

pub returns : goal.returns
unfolding refused_line
returns g c = rw (← c.from-refusal.ensures, two_fields (ascii "sheet ") _ c.ranges.number.fits (ascii " refused ") c.from-refusal.result (omega (arith, c.from-refusal.type_inv))) c.writeln.ensures.bytes
