use Rattle.std.proofs.Common.{arith}
use Rattle.std.proofs.lemmas.Slice.{take-put_mid}
use Rattle.text.proofs.words.word.Goals as goal

pub returns : goal.returns
returns c = record { few = omega arith; made = rw c.copy_from_slice.ensures.after (take-put_mid c.args.at _ c.args.out.now c.args.text.now _ (omega arith) (omega arith)) }
