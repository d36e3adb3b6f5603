-- The line's parts, one after the other. The chore's number has at most five digits, and the others three.
use Rattle.std.proofs.Common.{arith}
use Rattle.text.specs.Moves.{numbers_line}
use Rattle.text.proofs.Putting.{put_then, put_more}
use Rattle.text.proofs.Moving.{line_numbers}
use Rattle.text.proofs.moves.move_line.Goals as goal

pub returns : goal.returns
unfolding numbers_line
returns c =
    let chore = c.field-a.ensures.put 5 (omega arith) (omega arith) in
    let giver = c.field-b.ensures.put 3 (omega arith) (omega arith) in
    let receiver = c.field-c.ensures.put 3 (omega arith) (omega arith) in
    let round = c.field-d.ensures.put 3 (omega arith) (omega arith) in
    let step = c.field-e.ensures.put 3 (omega arith) (omega arith) in
    rw (line_numbers c.args.bytes.now _ c.from_be_bytes-chore.ensures) (put_more (put_then (put_then (put_then (put_then (put_then chore giver) receiver) round) step) c.end_line.ensures) (omega arith))
