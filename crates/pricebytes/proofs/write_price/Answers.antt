-- The four bytes of the price, written over those at its place.
use Rattle.std.proofs.Common.{◌*◌, arith}
use Rattle.finite.proofs.Stored.{put_over}
use Rattle.pricebytes.specs.PriceBytes.{four_bytes}
use Rattle.pricebytes.proofs.write_price.Goals as goal

pub returns : goal.returns
returns c =
    rw (c.copy_from_slice.ensures.after, c.to_be_bytes-four.ensures) (put_over c.args.bytes.now (four_bytes c.args.price) (4 * c.args.c) _ c.requires (omega arith))
