use mathlib.Core.Path.{refl}
use native.Mathlib.Omega.{arith}
use Rattle.model.specs.Instance.{owner_of}
use Rattle.given.proofs.owner.Goals as goal

pub returns : goal.returns
unfolding owner_of
returns c = record { is = refl; below = omega (arith, c.type_inv.owners c.args.c) }
