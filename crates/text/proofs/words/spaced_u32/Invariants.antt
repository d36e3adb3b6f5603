-- The numbers so far stand after the text, each after a space.
use Rattle.text.specs.Put.{Listed}
use Rattle.text.proofs.words.spaced_u32.Given as goal

abbrev pub invariant-loop-x : goal.invariant-loop-x
invariant-loop-x l = Listed 10 l.xs l.initial.out l.at l.out l.end l.x-index
