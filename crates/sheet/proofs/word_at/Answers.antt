-- `sheet::word_at` meets its contract: two bytes, and what they come to.
use native.Mathlib.Omega.{arith}
use Rattle.finite.specs.Lists.{word_at}
use Rattle.sheet.proofs.word_at.Goals as goal

pub returns : goal.returns
unfolding word_at
returns c = omega arith
