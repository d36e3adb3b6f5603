-- The sheet at work is one to be printed.
use Rattle.std.proofs.Common.{arith, ◌<◌}
use Rattle.pages.specs.Printer.{to_print}
use Rattle.pages.proofs.Printing.{in_book, begin, fitting, onward, end}
use Rattle.pages.proofs.print_book.Goals as goal

pub loop-j-init : goal.loop-j-init
loop-j-init g c = begin _ _ _ c.none-total.ensures

pub sheet_text-requires : goal.sheet_text-requires
sheet_text-requires g c =
    let inside : c.loop-j.j < to_print c.args.book.now = omega arith in
    in_book _ inside

pub tallied-total-requires : goal.tallied-total-requires
tallied-total-requires g c =
    let inside : c.loop-j.j < to_print c.args.book.now = omega arith in
    fitting _ _ inside c.loop-j.invariant c.in_ok-answer.ensures g.met.P.SheetPrinter.unbroken

pub loop-j-preserved : goal.loop-j-preserved
loop-j-preserved g c =
    let inside : c.loop-j.j < to_print c.args.book.now = omega arith in
    onward _ _ inside c.loop-j.invariant c.in_ok-answer.ensures _ c.flush.ensures.bytes c.tallied-total.ensures

pub returns : goal.returns
returns g c = end _ _ _ _ _ _ c.flush-2.result c.loop-j.invariant (omega arith) c.in_ok-write_last_text.ensures c.flush-2.ensures.bytes
