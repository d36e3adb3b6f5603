-- What the share-out promises is handed on.
use Rattle.std.proofs.Common.{arith}
use Rattle.pages.proofs.Printing.{sheet_shown}
use Rattle.shares.specs.Printing.{printer}
use Rattle.shares.proofs.Printing.{answered}
use Rattle.shares.proofs.page.SharesSheetPrinter.sheet_text.Goals as goal

pub answer_text-requires : goal.answer_text-requires
answer_text-requires g c = answered (omega arith) (omega arith) (omega arith) (omega arith) (omega arith) c.allocate-answer.ensures

pub returns : goal.returns
returns g c =
    let A = answered (omega arith) (omega arith) (omega arith) (omega arith) (omega arith) c.allocate-answer.ensures in
    sheet_shown printer c.args.book.now _ _ c.sheet_at-sheet.ensures A c.in_ok-answer_text.ensures
