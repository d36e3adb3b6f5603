-- The first i entries are the prices read.
use Rattle.std.proofs.Common.{◌≡◌, ◌++◌, take, drop}
use Rattle.pricebytes.specs.PriceBytes.{prices_in}
use Rattle.pricebytes.proofs.read_prices.Given as goal

abbrev pub invariant-loop-i : goal.invariant-loop-i
invariant-loop-i l = l.price-items ≡ take l.i (prices_in l.bytes) ++ drop l.i (take l.n l.fn.prices)
