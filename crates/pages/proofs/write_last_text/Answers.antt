-- A refused book by its number, any other by its tally.
use Rattle.std.proofs.Common.{arith, sym}
use Rattle.model.proofs.Refusing.{numbered}
use Rattle.pages.proofs.Printing.{ends_total, ends_refused}
use Rattle.pages.proofs.write_last_text.Goals as goal

pub returns-in-Ok : goal.returns-in-Ok
returns-in-Ok g c = rw (ends_total _ (sym c.in-Ok.ensures)) c.write_total_line.ensures

pub returns-in-Err : goal.returns-in-Err
returns-in-Err g c = rw (ends_refused c.args.book.now (λ z. omega (arith, c.in-Err.ensures, numbered c.in-Err.refusal)), ← c.in-Err.ensures) c.write_book_refused_line.ensures
