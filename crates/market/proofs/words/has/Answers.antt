-- `market::words::has` meets its contract.
use mathlib.Core.Path.{refl}
use Rattle.finite.specs.Bits.{bit}
use Rattle.market.proofs.words.has.Goals as goal

pub returns : goal.returns
unfolding bit
returns c = refl
