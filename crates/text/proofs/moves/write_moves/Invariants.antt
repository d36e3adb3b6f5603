-- The lines of the moves so far are sent.
use Rattle.std.proofs.Common.{take}
use Rattle.std.specs.Io.KnownBytes.{Appends}
use Rattle.text.proofs.Moving.{lines_of}
use Rattle.text.proofs.moves.write_moves.Given as goal

abbrev pub invariant-loop-six : goal.invariant-loop-six
invariant-loop-six g l = Appends (g.W.Write.contents l.initial.to) (g.W.Write.contents l.to) (lines_of (take l.six-index l.moves))
