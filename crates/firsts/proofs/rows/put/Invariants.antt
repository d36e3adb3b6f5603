-- `firsts::rows::put` meets its contract. The loop's invariant: the chore is put for the traits that are no longer to come.
use Rattle.firsts.proofs.Placing.{Placing}
use Rattle.firsts.proofs.rows.put.Given as goal

abbrev pub invariant-loop-t : goal.invariant-loop-t
invariant-loop-t l = Placing l.w l.word l.t-iterator.0 (λ d. l.c) l.initial.first l.first
