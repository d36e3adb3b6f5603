-- A number has at most 10 digits.
use Rattle.std.proofs.Common.{arith}
use Rattle.text.proofs.Putting.{list_begin, list_next}
use Rattle.text.proofs.words.spaced_u32.Goals as goal

pub loop-x-init : goal.loop-x-init
loop-x-init c = list_begin 10 (omega arith) _

pub loop-x-preserved : goal.loop-x-preserved
loop-x-preserved c = list_next 10 (omega arith) _ c.loop-x.invariant c.loop-x-test.true (omega arith) c.item-end.ensures (omega arith)
