use Rattle.std.proofs.Common.{◌+◌, ◌*◌, ◌<◌, ◌≡◌, arith}
use Rattle.model.specs.Sheet.{chores_of}
use Rattle.opening.proofs.Marking.{mark_in_byte, marked_next}
use Rattle.opening.proofs.add_byte.Goals as goal

pub loop-j-preserved : goal.loop-j-preserved
loop-j-preserved c =
    let loop = c.loop-j in
    let pre = c.requires.0 in
    let there : 8 * c.args.k + loop.j < chores_of c.args.sheet.now = omega (arith, pre.within) in
    let next : 8 * c.args.k + (loop.j + 1) ≡ 8 * c.args.k + loop.j + 1 = omega arith in
    let few : loop.j < 8 = omega (arith, pre.most) in
    let mark = mark_in_byte c.args.sheet.now c.args.i c.args.k few c.row_byte-byte.ensures c.mark_in.ensures in
    rw next (marked_next loop.invariant there (rw (← mark) c.with_easy.ensures))
