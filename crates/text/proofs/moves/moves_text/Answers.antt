use Rattle.std.proofs.Common.{arith}
use Rattle.text.proofs.Moving.{moves_begin, moves_next, moves_end}
use Rattle.text.proofs.moves.moves_text.Goals as goal

pub loop-six-init : goal.loop-six-init
loop-six-init c = moves_begin _

pub loop-six-preserved : goal.loop-six-preserved
loop-six-preserved c = moves_next _ c.loop-six.invariant c.loop-six-test.true c.move_line-end.ensures (omega arith)

pub returns : goal.returns
returns c = moves_end _ c.loop-six.invariant _ c.as_chunks.ensures.front (omega arith) c.loop-six-test.false
