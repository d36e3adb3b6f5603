-- `placing::take_easy` meets its contract. The loop's invariant: of the first c chores the agent has taken what is easy for it, up to its quota.
use Rattle.placing.specs.Filling.{QuotaTakenTo}
use Rattle.placing.specs.Sheets.{units_on}
use Rattle.placing.proofs.take_easy.Given as goal

abbrev pub invariant-loop-c : goal.invariant-loop-c
invariant-loop-c l = QuotaTakenTo (units_on l.sheet) l.j l.quota l.c l.left l.initial.owners l.owners
