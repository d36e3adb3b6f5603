-- `firsts::dearest::rests` meets its contract. The loop's invariant: the agents passed have what is left of their sums.
use Rattle.std.proofs.Common.{◌-◌, true, get_or}
use Rattle.finite.proofs.Rewriting.{Rewritten}
use Rattle.firsts.specs.Dearest.{dearest_in}
use Rattle.firsts.proofs.dearest.rests.Given as goal

abbrev pub invariant-loop-i : goal.invariant-loop-i
invariant-loop-i l = Rewritten l.i (λ k. true) (λ k. get_or l.sums k 0 - dearest_in (get_or l.sets k 0) (get_or l.sums k 0) l.view.low l.view.mid l.view.top) l.initial.ups l.ups
