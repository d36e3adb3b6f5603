use Rattle.program.proofs.Pieces.{none_left}
use Rattle.program.proofs.buffered.BufferedWrite.flush.Goals as goal

pub returns-then-self-eq0-clause-all : goal.returns-then-self-eq0-clause-all
returns-then-self-eq0-clause-all g c = none_left c.flush.result _ (g.W.Write.contents c.loop.self.to) _ _ c.loop.self.bytes c.if-self-eq0.true c.loop.invariant c.flush.ensures.bytes
