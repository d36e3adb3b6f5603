-- The numbers so far are sent.
use Rattle.std.proofs.Common.{length}
use Rattle.text.proofs.Parts.{Going}
use Rattle.text.proofs.lines.write_agents.Given as goal

abbrev pub invariant-loop-rest : goal.invariant-loop-rest
invariant-loop-rest g l = Going (g.W.Write.contents l.initial.to) l.agents (g.W.Write.contents l.to) l.rest

abbrev pub decreases-loop-rest : goal.decreases-loop-rest
decreases-loop-rest g l = length l.rest
