-- `market::cuts::cut_groups` meets its contract. The loop's invariant: the groups of the agents passed are rewritten, the others as they were.
use Rattle.finite.specs.Bits.{bit}
use Rattle.finite.proofs.Rewriting.{Rewritten}
use Rattle.market.proofs.cuts.cut_groups.Given as goal

abbrev pub invariant-loop-i : goal.invariant-loop-i
invariant-loop-i l = Rewritten l.i (λ k. bit l.reached k) (λ k. l.number) l.initial.groups l.groups
