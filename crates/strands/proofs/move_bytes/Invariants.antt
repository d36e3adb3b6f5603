-- `strands::move_bytes` meets its contract. The loop's invariant is `Moving`.
use Rattle.strands.proofs.Filling.{Moving}
use Rattle.strands.proofs.move_bytes.Given as goal

abbrev pub invariant-loop-k : goal.invariant-loop-k
invariant-loop-k l = Moving l.before l.row l.shift l.initial.joined l.at l.joined l.high l.k
