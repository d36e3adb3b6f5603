-- `firsts::rows::not_before` meets its contract. The loop's invariant: of the traits that are no longer to come, those found.
use Rattle.std.proofs.Common.{◌+◌, ◌*◌, leb, get_or}
use Rattle.firsts.specs.Traits.{trait_count}
use Rattle.firsts.proofs.Keeping.{Keeping}
use Rattle.firsts.proofs.rows.not_before.Given as goal

abbrev pub invariant-loop-t : goal.invariant-loop-t
invariant-loop-t l = Keeping l.word l.t-iterator.0 l.found (λ t. leb l.c (get_or l.first (l.w * trait_count + t) 0))
