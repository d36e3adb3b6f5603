-- `book::allocate_book` meets its contract: a refused book by its refusal, any other by what its sheets leave.
-- Assumes nothing.
use Rattle.std.proofs.Common.{ℕ, sym}
use Rattle.std.proofs.lemmas.List.{length-replicate}
use Rattle.model.specs.Limits.{max_chores}
use Rattle.model.proofs.Refusing.{left}
use Rattle.book.proofs.Outcome.{fine_book, book_refused, book_shared}
use Rattle.book.proofs.allocate_book.Goals as goal

pub returns-in_err-admit : goal.returns-in_err-admit
returns-in_err-admit c = book_refused _ _ _ _ (left c.from_residual.result _ c.from_residual.ensures.1 c.in_err-admit.ensures)

pub share_sheets-requires : goal.share_sheets-requires
share_sheets-requires c = fine_book _ _ _ c.args.scratch.now (sym c.in_ok-admit.ensures) (c.fill.ensures.after (λ y e. e)) (length-replicate {A = ℕ} max_chores 0)

pub returns : goal.returns
returns c = book_shared _ _ _ _ (sym c.in_ok-admit.ensures) (c.fill.ensures.after (λ y e. e)) c.share_sheets.ensures
