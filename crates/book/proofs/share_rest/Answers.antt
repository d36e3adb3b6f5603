-- `book::share_rest` meets its contract: what the share-out and the bytes of its prices leave of the rests, read over the whole lists.
-- Assumes nothing.
use native.Mathlib.Omega.{arith}
use lib.ListN.{length-take, length-drop}
use Rattle.book.proofs.Finals.{answered, taken_few}
use Rattle.book.proofs.Rest.{answer_is, rest_shared}
use Rattle.book.proofs.share_rest.Goals as goal

-- there is room for any sheet, so it alone decides
pub entries-m-requires : goal.entries-m-requires
entries-m-requires c = answered _ (answer_is c.requires c.allocate-answer.ensures)

pub write_prices-requires : goal.write_prices-requires
write_prices-requires c =
    let few = taken_few _ (answer_is c.requires c.allocate-answer.ensures) c.entries-m.ensures in
    record {
      in_bytes = simp (length-take, length-drop) (omega (arith, few, c.requires.prices_fit));
      in_prices = omega (arith, few, c.requires.numbers_fit, c.allocate-answer.auto.prices);
    }

pub returns : goal.returns
returns c = rest_shared c.requires c.allocate-answer.ensures c.entries-m.ensures c.allocate-answer.auto.prices c.write_prices.ensures
