-- `recorded::allocate_recorded` meets its contract, for every sheet and whatever is lent.
use Rattle.std.proofs.Common.{sym}
use Rattle.model.proofs.Refusing.{left}
use Rattle.sheet.proofs.Refusal.{recorded_taken}
use Rattle.recorded.proofs.Recording.{refused_kept, recorded_out}
use Rattle.recorded.proofs.allocate_recorded.Goals as goal

pub returns-in_err-sheet : goal.returns-in_err-sheet
returns-in_err-sheet c = refused_kept (left c.from_residual.result _ c.from_residual.ensures.1 c.in_err-sheet.ensures.number)

pub share_out-requires : goal.share_out-requires
share_out-requires c = rw c.in_ok-sheet.ensures.same (recorded_taken _ _ _ _ _ _ (sym c.in_ok-sheet.ensures.number)).0

pub returns : goal.returns
returns c = recorded_out (sym c.in_ok-sheet.ensures.number) (rw c.in_ok-sheet.ensures.same at c.share_out.ensures)
