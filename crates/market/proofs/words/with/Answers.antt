-- `market::words::with` meets its contract: 1 shifted by less than 32 loses no digit.
use mathlib.Core.Path.{ap}
use lib.Bits.{bit_or}
use Rattle.finite.proofs.Bits.{shift_one}
use Rattle.market.proofs.words.with.Goals as goal

pub returns : goal.returns
returns c = ap (λ x. bit_or c.args.w x) (shift_one c.requires)
