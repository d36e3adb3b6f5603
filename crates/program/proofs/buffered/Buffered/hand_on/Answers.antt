-- What was taken is followed by what was not.
use Rattle.std.proofs.Common.{arith}
use Rattle.std.proofs.KnownBytes.{append_known-moved}
use Rattle.program.proofs.Pieces.{take_fewer}
use Rattle.program.proofs.buffered.Buffered.hand_on.Goals as goal

pub returns-in_default : goal.returns-in_default
returns-in_default g c = rw c.copy_within.ensures.after (append_known-moved _ _ _ _ _ c.in_ok-n.ensures.bytes (take_fewer c.args.self.now.size c.in_ok-n.n c.args.self.now.bytes (omega (arith, c.in_ok-n.ensures.bound)) (omega arith)))
