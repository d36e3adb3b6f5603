-- The texts of the sheets so far are printed.
use Rattle.pages.specs.Printing.{Passed}
use Rattle.pages.proofs.print_book.Given as goal

abbrev pub invariant-loop-j : goal.invariant-loop-j
invariant-loop-j g l = Passed g.P.SheetPrinter.printer l.book (g.W.Write.contents l.initial.to) (g.W.Write.contents l.to) l.total l.j
