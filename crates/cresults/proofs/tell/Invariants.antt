-- `cresults::tell` meets its contract: after j turns the first j entries of each list are told.
use Rattle.cresults.specs.Parts.{SheetsTold}
use Rattle.cresults.proofs.tell.Given as goal

abbrev pub invariant-loop-j : goal.invariant-loop-j
invariant-loop-j l = SheetsTold l.j l.book.sheets l.initial.refusals l.initial.moves l.initial.cuts l.initial.firsts l.refusals l.moves l.cuts l.firsts
