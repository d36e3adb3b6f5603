-- `strands::write_rows` meets its contract. The loop's invariant is `Writing`.
use Rattle.strands.proofs.Joining.{Writing}
use Rattle.strands.proofs.write_rows.Given as goal

abbrev pub invariant-loop-i : goal.invariant-loop-i
invariant-loop-i l = Writing l.first l.second l.initial.joined l.joined l.i
