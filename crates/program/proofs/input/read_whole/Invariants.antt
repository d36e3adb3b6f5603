-- What is read lies at the start of the buffer, which keeps its length, and is what the reader has given. The measure is what is left of the
-- buffer: a turn that goes on has read something.
use Rattle.std.proofs.Common.{length, ◌-◌, ◌≡◌}
use Rattle.program.specs.Input.{Taken}
use Rattle.program.proofs.input.read_whole.Given as goal

abbrev pub invariant-loop-done : goal.invariant-loop-done
invariant-loop-done g l = record {
  sized : length l.buf ≡ length l.initial.buf;
  taken : Taken (g.R.Read.remaining l.initial.from) (g.R.Read.remaining l.from) l.buf l.done;
}

abbrev pub decreases-loop-done : goal.decreases-loop-done
decreases-loop-done g l = length l.initial.buf - l.done
