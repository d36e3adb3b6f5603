-- `placing::serve` meets its contract: places for an agent, and then easy chores.
use Prim.Native.Nat.{◌*◌, ◌-◌, ◌/◌, ◌≤◌}
use mathlib.Core.Path.{refl}
use mathlib.Core.Logic.{inl, inr}
use native.Mathlib.Omega.{arith}
use native.Mathlib.Nat.{le_trans, mul-le-mul_left, mul-div-le}
use borrow.Author.Rules.{rules}
use Rattle.finite.proofs.Below.{by_less}
use Rattle.placing.specs.Filling.{QuotaTaken}
use Rattle.placing.specs.Sheets.{units_on}
use Rattle.placing.proofs.serve.Goals as goal
use Rattle.placing.proofs.serve.Goals.{After-min-mine}

-- its places are no more than fit its measure
fits : (c : After-min-mine) → c.args.q * c.min-mine.result ≤ c.args.measure
fits c =
    let few : c.min-mine.result ≤ c.args.measure / c.args.q = omega (arith, c.min-mine.ensures) in
    le_trans (mul-le-mul_left c.args.q few) (mul-div-le c.args.measure c.args.q)

pub overflow_mul-q : goal.overflow_mul-q
overflow_mul-q c = let fit = fits (goal.at.overflow_mul-q c).After-min-mine in search rules

pub overflow_sub-measure : goal.overflow_sub-measure
overflow_sub-measure c = omega (arith, fits (goal.at.overflow_sub-measure c).After-min-mine)

pub returns : goal.returns
returns c =
    let weight = c.requires.q_nonzero.1 in
    let args = c.args in
    let fit = args.measure / args.q in
    let mine = c.min-mine.result in
    let taken : QuotaTaken (units_on args.sheet.now) args.j (args.measure - args.q * mine) args.owners.now c.take_easy.new.owners = c.take_easy.ensures in
    record {
      mine = mine;
      most = omega (arith, c.min-mine.ensures);
      fits = rw (← weight) (fits (goal.at.returns c).After-min-mine);
      either = rw (← weight) (by_less fit args.left (λ l. inl (omega (arith, c.min-mine.ensures))) (λ l. inr (omega (arith, c.min-mine.ensures))));
      rest = refl;
      placed = refl;
      taken = rw weight at taken;
    }
