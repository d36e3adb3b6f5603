use mathlib.Core.Path.{◌≡◌}
use native.Mathlib.Omega.{arith}
use Rattle.model.specs.Contents.{sheet_count}
use Rattle.book.proofs.Finals.{answered}
use Rattle.book.proofs.Passed.{begin, room, fitting, still_fits, onward, finish}
use Rattle.book.proofs.share_sheets.Goals as goal

pub loop-j-init : goal.loop-j-init
loop-j-init c = begin _ c.none-total.ensures

pub share_rest-answer-requires : goal.share_rest-answer-requires
share_rest-answer-requires c = room _ c.requires c.loop-j.invariant (omega arith) c.loop-j.auto.numbers

pub tallied-total-requires : goal.tallied-total-requires
tallied-total-requires c = fitting _ c.requires c.loop-j.invariant (omega arith) c.sheet_at-sheet.ensures c.share_rest-answer.ensures

pub entries-first-requires : goal.entries-first-requires
entries-first-requires c = answered _ c.share_rest-answer.ensures.answer

pub overflow_add-first : goal.overflow_add-first
overflow_add-first c =
    let fits = still_fits _ c.requires c.loop-j.invariant (omega arith) c.sheet_at-sheet.ensures c.share_rest-answer.ensures c.entries-first.ensures in
    omega (arith, fits)

pub loop-j-preserved : goal.loop-j-preserved
loop-j-preserved c = onward _ c.requires c.loop-j.invariant (omega arith) c.sheet_at-sheet.ensures c.share_rest-answer.ensures c.entries-first.ensures _ c.entry.ensures c.tallied-total.ensures

pub returns : goal.returns
returns c =
    let number = c.count-k.ensures.is in
    let passed = c.loop-j.invariant in
    let all : c.loop-j.j ≡ sheet_count c.args.book.now = omega (arith, number, passed.within, c.loop-j-test.false) in
    finish _ c.requires passed all _ number
