-- The value of four bytes, the high one first.
use Rattle.std.proofs.Common.{◌+◌, ◌*◌, ◌≡◌, get_or, ap, arith}
use Rattle.finite.specs.Lists.{word_at}
use Rattle.pricebytes.specs.PriceBytes.{price_at}
use Rattle.pricebytes.proofs.price_at.Goals as goal

pub returns : goal.returns
unfolding price_at word_at
returns c =
    let at = 4 * c.args.c in
    let last : get_or c.args.bytes.now (at + 2 + 1) 0 ≡ get_or c.args.bytes.now (at + 3) 0 = ap (λ k. get_or c.args.bytes.now k 0) (omega arith) in
    rw c.from_be_bytes.ensures (omega arith)
