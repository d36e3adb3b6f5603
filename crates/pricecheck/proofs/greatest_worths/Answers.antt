use Prim.Native.Nat.{◌+◌, ◌*◌, ◌/◌, ◌%◌}
use mathlib.Core.Path.{◌≡◌}
use native.Mathlib.Omega.{arith}
use Rattle.std.proofs.Common.{rules}
use Rattle.model.specs.Sheet.{chores_of}
use Rattle.pricecheck.proofs.Worths.{greatest_none}
use Rattle.pricecheck.proofs.greatest_worths.Goals as goal

pub loop-k-init : goal.loop-k-init
loop-k-init c =
    greatest_none c.chores-m.ensures.valid.agents_fit (search rules)

pub raise-requires : goal.raise-requires
raise-requires c =
    record { column = record { priced = c.requires; few = omega arith; inside = omega (arith, c.loop-k-test.true, c.chores-m.ensures.is) }; greatest = c.loop-k.invariant }

pub loop-k-preserved : goal.loop-k-preserved
loop-k-preserved c =
    let k = c.loop-k.k in
    let more : 8 * k + 8 ≡ 8 * (k + 1) = omega arith in
    rw more at c.raise.ensures

pub raise-requires-2 : goal.raise-requires-2
raise-requires-2 c =
    let all : c.loop-k.k ≡ c.chores-m.result / 8 = omega arith in
    record { column = record { priced = c.requires; few = omega arith; inside = omega (arith, c.chores-m.ensures.is) }; greatest = rw all at c.loop-k.invariant }

pub returns : goal.returns
returns c =
    let m = c.chores-m.result in
    let all : 8 * (m / 8) + m % 8 ≡ chores_of c.args.sheet.now = omega (arith, c.chores-m.ensures.is) in
    rw all at c.raise-2.ensures
