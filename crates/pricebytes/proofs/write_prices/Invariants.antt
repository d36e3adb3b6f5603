-- The bytes of the first c prices are written.
use Rattle.std.proofs.Common.{◌≡◌}
use Rattle.pricebytes.specs.PriceBytes.{with_prices}
use Rattle.pricebytes.proofs.write_prices.Given as goal

abbrev pub invariant-loop-c : goal.invariant-loop-c
invariant-loop-c l = l.bytes ≡ with_prices l.c l.prices l.initial.bytes
