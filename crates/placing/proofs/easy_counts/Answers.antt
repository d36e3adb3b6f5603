use Rattle.std.proofs.Common.{◌≡◌, arith}
use Rattle.model.specs.Sheet.{agents_of}
use Rattle.placing.proofs.Counting.{counted_more, marked_few, marked_easy}
use Rattle.placing.proofs.easy_counts.Goals as goal

pub overflow_sub-easy : goal.overflow_sub-easy
overflow_sub-easy c = omega (arith, marked_few c.args.sheet.now c.loop-i.i c.difficult_marks-difficult.ensures, c.chores.ensures.is)

pub overflow_cast-counts : goal.overflow_cast-counts
overflow_cast-counts c = omega (arith, c.chores.ensures.is, c.chores.ensures.valid.chores_fit)

pub loop-i-preserved : goal.loop-i-preserved
loop-i-preserved c =
    let loop = c.loop-i in
    let told = c.chores.ensures in
    counted_more loop.invariant (omega (arith, c.agents-i-end.ensures.is, told.valid.agents_fit)) (rw told.is (marked_easy c.args.sheet.now loop.i c.difficult_marks-difficult.ensures))

pub returns : goal.returns
returns c =
    let loop = c.loop-i in
    let all : loop.i ≡ agents_of c.args.sheet.now = omega (arith, c.agents-i-end.ensures.is) in
    rw all at loop.invariant
