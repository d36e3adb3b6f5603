-- `market::cuts::cut_prices` meets its contract. The loop's invariant: price and entitled mark of the chores passed are rewritten, the others as
-- they were; so the price that is read is still the one at entry, and its product with a fits.
use Prim.Native.Nat.{◌*◌, ◌/◌}
use lib.ListN.{get_or}
use Rattle.finite.specs.Bits.{bit}
use Rattle.model.specs.Instance.{owner_of}
use Rattle.finite.proofs.Rewriting.{Rewritten}
use Rattle.market.proofs.cuts.cut_prices.Given as goal

abbrev pub invariant-loop-c : goal.invariant-loop-c
invariant-loop-c l = Rewritten l.c (λ k. bit l.reached (owner_of l.owners k)) (λ k. get_or l.initial.prices k 0 * l.a / l.b) l.initial.prices l.prices
    × Rewritten l.c (λ k. bit l.reached (owner_of l.owners k)) (λ k. 1) l.initial.entitled l.entitled
