use Rattle.std.proofs.Common.{arith}
use Rattle.text.specs.Text.{ascii}
use Rattle.text.specs.Lines.{book_refused_line}
use Rattle.text.proofs.Sending.{one_field}
use Rattle.text.proofs.lines.write_book_refused_line.Goals as goal

pub returns : goal.returns
unfolding book_refused_line
returns g c = rw (← c.from-refusal.ensures, one_field (ascii "book refused ") c.from-refusal.result (omega (arith, c.from-refusal.type_inv))) c.writeln.ensures.bytes
