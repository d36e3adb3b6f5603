use Rattle.std.proofs.Common.{sym, arith}
use Rattle.pricebytes.proofs.Writing.{with_none, next_written}
use Rattle.pricebytes.proofs.write_prices.Goals as goal

pub loop-c-init : goal.loop-c-init
loop-c-init c = sym (with_none _ _)

pub loop-c-preserved : goal.loop-c-preserved
loop-c-preserved c = next_written _ _ _ c.write_price.ensures c.loop-c.invariant (omega arith) (omega arith)
