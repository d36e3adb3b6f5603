-- `book::share_sheets` meets its contract. The loop's invariant is `Passed`.
-- Assumes nothing.
use Rattle.book.specs.Passed.{Passed}
use Rattle.book.proofs.share_sheets.Given as goal

abbrev pub invariant-loop-j : goal.invariant-loop-j
invariant-loop-j l = Passed l.book l.initial.owners l.initial.prices l.initial.scratch l.owners l.prices l.scratch l.sheets l.total l.first l.j
