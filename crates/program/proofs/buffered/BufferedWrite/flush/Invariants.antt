-- No byte is lost.
use Rattle.std.specs.Io.KnownBytes.{Keeps}
use Rattle.program.specs.Buffered.{held}
use Rattle.program.proofs.buffered.BufferedWrite.flush.Given as goal

abbrev pub invariant-loop : goal.invariant-loop
invariant-loop g l = Keeps (held g.W.Write.contents l.initial.self) (held g.W.Write.contents l.self)
