-- What the share-out promises is handed on.
use Rattle.std.proofs.Common.{arith}
use Rattle.pages.proofs.Printing.{sheet_shown}
use Rattle.why.specs.Told.{printer}
use Rattle.why.proofs.Answering.{answered, noted}
use Rattle.why.proofs.page.WhySheetPrinter.sheet_text.Goals as goal

pub answer_text-requires-clause-answered : goal.answer_text-requires-clause-answered
answer_text-requires-clause-answered g c =
    answered (omega arith) (omega arith) (omega arith) (omega arith) c.allocate_recorded-answer.ensures (omega arith) (omega arith)

pub answer_text-requires-clause-noted_if : goal.answer_text-requires-clause-noted_if
answer_text-requires-clause-noted_if g c =
    noted (omega arith) (omega arith) (omega arith) (omega arith) c.allocate_recorded-answer.ensures (omega arith)

pub returns : goal.returns
returns g c =
    let A = answered (omega arith) (omega arith) (omega arith) (omega arith) c.allocate_recorded-answer.ensures (omega arith) (omega arith) in
    sheet_shown printer c.args.book.now _ _ c.sheet_at-sheet.ensures A c.in_ok-answer_text.ensures
