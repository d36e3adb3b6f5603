-- `market::words::with_easy` meets its contract.
use mathlib.Core.Path.{sym, ◌∙◌}
use borrow.Author.Tests.{eq-eqb, ne_eqb}
use Rattle.finite.proofs.Tests.{cond_true, cond_false}
use Rattle.market.proofs.words.with_easy.Goals as goal

pub returns-then-mark-eq1 : goal.returns-then-mark-eq1
returns-then-mark-eq1 c = sym (cond_true _ _ (eq-eqb _ 1 c.if-mark-eq1.true))

pub returns-else-mark-eq1 : goal.returns-else-mark-eq1
returns-else-mark-eq1 c = c.with.ensures ∙ sym (cond_false _ _ (ne_eqb _ 1 c.if-mark-eq1.false))
