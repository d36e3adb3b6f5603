use Rattle.std.proofs.Common.{◌+◌, ◌*◌, ◌≤◌, ◌<◌, ◌≡◌, length, set, take, drop, sym, ap, ◌∙◌, refl, [], append-nil, arith}
use Rattle.std.proofs.lemmas.List.{length-take-le, drop_all}
use Rattle.finite.proofs.Lists.{over_next}
use Rattle.pricebytes.specs.PriceBytes.{prices_in}
use Rattle.pricebytes.proofs.Reading.{prices_count, prices_at}
use Rattle.pricebytes.proofs.read_prices.Goals as goal

pub loop-i-preserved : goal.loop-i-preserved
loop-i-preserved c =
    let bytes = c.args.bytes.now in
    let front = take c.args.n c.args.prices.now in
    let long : length front ≡ c.args.n = length-take-le c.args.n c.args.prices.now c.requires.in_prices in
    let inside : 4 * c.loop-i.i + 4 ≤ length bytes = omega arith in
    let counted : c.loop-i.i < length (prices_in bytes) = omega (arith, prices_count bytes) in
    ap (λ xs. set xs c.loop-i.i c.price_at.result) c.loop-i.invariant
    ∙ over_next (prices_in bytes) front counted (omega arith) (c.price_at.ensures ∙ sym (prices_at bytes c.loop-i.i inside))

pub returns : goal.returns
returns c =
    let front = take c.args.n c.args.prices.now in
    let long : length front ≡ c.args.n = length-take-le c.args.n c.args.prices.now c.requires.in_prices in
    let all : c.loop-i.i ≡ c.args.n = omega arith in
    let none : drop c.args.n front ≡ [] = drop_all c.args.n front (omega arith) in
    rw (c.loop-i.invariant, all, none, append-nil) refl
