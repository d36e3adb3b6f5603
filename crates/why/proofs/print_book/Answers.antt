use Rattle.std.proofs.Common.{rules}
use Rattle.program.proofs.Flushing.{flushed}
use Rattle.why.proofs.Printing.{printed}
use Rattle.why.proofs.print_book.Goals as goal

pub returns : goal.returns
returns g c =
    let book = c.args.book.now in
    let whole = printed book in
    search (rules, flushed, whole)
