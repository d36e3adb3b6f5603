-- What one more read put into the rest of the buffer stands after what was there.
use Rattle.std.proofs.Common.{rules, ◌-◌, length, subst}
use Rattle.std.proofs.KnownBytes.{Consumes-trans}
use Rattle.std.specs.Io.KnownBytes.{Consumes}
use Rattle.program.proofs.Pieces.{take_more}
use Rattle.program.proofs.input.read_whole.Goals as goal

pub loop-done-preserved : goal.loop-done-preserved
loop-done-preserved g c =
    let done = c.loop-done.done in
    let room = length c.loop-done.buf - done in
    let taken = c.loop-done.invariant.taken in record {
      sized = search rules;
      taken =
          record {
            within = search rules;
            read =
                subst (Consumes _ _) (take_more done room c.in-Ok.more c.loop-done.buf c.read.new.buf taken.within c.in-Ok.ensures.bound.0) (Consumes-trans _ _ _ _ _ taken.read c.in-Ok.ensures.bytes.0);
          };
    }
