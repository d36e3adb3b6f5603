-- `sheet::out_of_range` meets its contract, by cases on the first test.
use borrow.Author.Tests.{eq-eqb, ne_eqb}
use Rattle.sheet.proofs.out_of_range.Goals as goal

pub returns-then-k-eq0 : goal.returns-then-k-eq0
returns-then-k-eq0 c = rw (eq-eqb _ _ c.if-k-eq0.true)

pub returns-else-k-eq0 : goal.returns-else-k-eq0
returns-else-k-eq0 c = rw (ne_eqb _ _ c.if-k-eq0.false)
