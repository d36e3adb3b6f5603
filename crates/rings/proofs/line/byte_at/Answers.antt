-- `rings::line::byte_at` meets its contract.
use mathlib.Core.Path.{refl}
use Rattle.rings.specs.Line.{byte_at}
use Rattle.rings.proofs.line.byte_at.Goals as goal

pub returns : goal.returns
unfolding byte_at
returns c = refl
