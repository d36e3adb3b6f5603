-- A refused book by its number, any other by its tally.
use Rattle.std.proofs.Common.{arith, sym}
use Rattle.model.proofs.Refusing.{numbered}
use Rattle.pages.proofs.Printing.{shown, ends_total, ends_refused}
use Rattle.pages.proofs.last_text.Goals as goal

pub returns-in-Ok : goal.returns-in-Ok
returns-in-Ok c = rw (ends_total _ (sym c.in-Ok.ensures)) (shown c.total_line.ensures (omega arith))

pub returns-in-Err : goal.returns-in-Err
returns-in-Err c = rw (ends_refused c.args.book.now (λ z. omega (arith, c.in-Err.ensures, numbered c.in-Err.refusal)), ← c.in-Err.ensures, ← c.from.ensures) (shown c.book_refused_line.ensures (omega arith))
