-- `allocation::allocate` meets its contract, for every sheet and whatever is lent.
use Rattle.std.proofs.Common.{sym}
use Rattle.model.proofs.Refusing.{left}
use Rattle.allocation.proofs.Accepting.{refused_kept}
use Rattle.allocation.proofs.allocate.Goals as goal

pub returns-in_err-sheet : goal.returns-in_err-sheet
returns-in_err-sheet c = refused_kept (left c.from_residual.result _ c.from_residual.ensures.1 c.in_err-sheet.ensures.number)

pub share_out-requires : goal.share_out-requires
share_out-requires c = rw c.in_ok-sheet.ensures.same (sym c.in_ok-sheet.ensures.number)

pub returns : goal.returns
returns c = rw c.in_ok-sheet.ensures.same at c.share_out.ensures.allocated
