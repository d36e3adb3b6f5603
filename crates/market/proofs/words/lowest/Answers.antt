-- `market::words::lowest` meets its contract.
use mathlib.Core.Path.{ap, sym, ◌∙◌}
use native.Mathlib.Omega.{arith}
use lib.Count.{count_trailing_zeros, trailing_le}
use borrow.Author.Tests.{lt-ltb, le-ltb}
use Rattle.std.specs.Bool.{then_some}
use Rattle.finite.specs.Search.{if_below}
use Rattle.finite.proofs.Below.{by_less}
use Rattle.finite.proofs.Found.{below_some, below_none}
use Rattle.finite.proofs.LowestBit.{first_set, none_set}
use Rattle.market.proofs.words.lowest.Goals as goal

pub overflow_cast-t : goal.overflow_cast-t
overflow_cast-t c = omega (arith, trailing_le 32 c.args.w)

pub returns : goal.returns
returns c =
    let w = c.args.w in
    let n = c.args.n in
    let t = count_trailing_zeros 32 w in
    c.then_some.ensures ∙ by_less t n
    (λ l. ap (λ b. then_some b t) (lt-ltb t n l) ∙ sym (ap (if_below n) (first_set 32 w n (omega arith) (omega arith) l) ∙ below_some l))
    (λ l. ap (λ b. then_some b t) (le-ltb t n l) ∙ sym (ap (if_below n) (none_set 32 w n l) ∙ below_none n))
