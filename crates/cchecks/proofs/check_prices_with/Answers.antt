-- `cchecks::check_prices_with` meets its contract: the check of the prices read, or of one price too many where the bytes are not 4 m.
use Prim.Native.Nat.{◌+◌, ◌≤◌}
use mathlib.Core.Path.{◌≡◌, sym, ap, ◌∙◌}
use native.Mathlib.Omega.{arith}
use lib.ListN.{length, take, drop}
use lib.Seq.{length-take-le}
use Rattle.sheet.proofs.Refusal.{valid}
use Rattle.pricebytes.specs.PriceBytes.{prices_in}
use Rattle.pricebytes.proofs.Reading.{prices_all}
use Rattle.cchecks.proofs.PriceChecks.{judged, judged_odd}
use Rattle.cchecks.proofs.check_prices_with.Goals as goal

pub chores-m-requires : goal.chores-m-requires
chores-m-requires c = (valid _ c.requires.fine).header

-- one price more than there are chores has room
pub slice_bounds-check_prices-end : goal.slice_bounds-check_prices-end
slice_bounds-check_prices-end c = omega (arith, c.chores-m.ensures.is, (valid _ c.requires.fine).chores_fit, c.requires.long)

pub slice_bounds-check_prices-end-then-prices-m : goal.slice_bounds-check_prices-end-then-prices-m
slice_bounds-check_prices-end-then-prices-m c =
    let room : c.chores-m.result + 1 ≤ length c.args.lent.now = omega (arith, c.chores-m.ensures.is, (valid _ c.requires.fine).chores_fit, c.requires.long) in
    sym (length-take-le _ _ room)

pub returns-then-prices-m : goal.returns-then-prices-m
returns-then-prices-m c =
    let room : c.chores-m.result + 1 ≤ length c.args.lent.now = omega (arith, c.chores-m.ensures.is, (valid _ c.requires.fine).chores_fit, c.requires.long) in
    let chores = c.chores-m.ensures.is in
    let xs = take (c.chores-m.result + 1) c.args.lent.now in
    let long : length xs ≡ c.chores-m.result + 1 = length-take-le _ _ room in
    judged_odd _ _ c.args.prices.now xs (λ e. omega (arith, e, chores, c.if-prices-m.true)) (λ e. omega (arith, e, chores, long)) c.check_prices.ensures.answer c.price_number.ensures

pub read_prices-requires : goal.read_prices-requires
read_prices-requires c =
    let room : c.chores-m.result + 1 ≤ length c.args.lent.now = omega (arith, c.chores-m.ensures.is, (valid _ c.requires.fine).chores_fit, c.requires.long) in
    record { in_bytes = omega (arith, c.if-prices-m.false); in_prices = omega (arith, room) }

-- the numbers have room when they are read, too
pub slice_bounds-check_prices-end-2 : goal.slice_bounds-check_prices-end-2
slice_bounds-check_prices-end-2 c =
    let room : c.chores-m.result + 1 ≤ length c.args.lent.now = omega (arith, c.chores-m.ensures.is, (valid _ c.requires.fine).chores_fit, c.requires.long) in
    omega (arith, room, c.read_prices.auto.prices)

pub slice_bounds-check_prices-end-3 : goal.slice_bounds-check_prices-end-3
slice_bounds-check_prices-end-3 c =
    let room : c.chores-m.result + 1 ≤ length c.args.lent.now = omega (arith, c.chores-m.ensures.is, (valid _ c.requires.fine).chores_fit, c.requires.long) in
    let filled : c.chores-m.result ≤ length c.read_prices.new.prices = omega (arith, room, c.read_prices.auto.prices) in
    sym (length-take-le _ _ filled)

pub returns : goal.returns
returns c =
    let m = c.chores-m.result in
    let bytes = c.args.prices.now in
    let sized = c.if-prices-m.false in
    let lent : take m c.read_prices.new.prices ≡ prices_in bytes = ap (take m) c.read_prices.ensures ∙ prices_all bytes m (drop m c.args.lent.now) sized in
    judged _ _ bytes (omega (arith, sized, c.chores-m.ensures.is)) lent c.check_prices-2.ensures.answer c.price_number-2.ensures
