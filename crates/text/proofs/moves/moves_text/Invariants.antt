-- The lines of the moves so far stand after the text.
use Rattle.text.proofs.Moving.{Moved}
use Rattle.text.proofs.moves.moves_text.Given as goal

abbrev pub invariant-loop-six : goal.invariant-loop-six
invariant-loop-six l = Moved l.moves l.initial.out l.at l.out l.end l.six-index
