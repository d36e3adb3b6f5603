-- So many moves fit where their bytes do.
use Rattle.std.proofs.Common.{arith}
use Rattle.std.proofs.lemmas.Bool.Decides.{nat_tests}
use Rattle.model.specs.Refusals.{record_refusal}
use Rattle.records.proofs.admit_moves.Goals as goal

pub returns-then-moves-room : goal.returns-then-moves-room
unfolding record_refusal
returns-then-moves-room c = grind (arith, nat_tests)

pub returns : goal.returns
unfolding record_refusal
returns c = grind (arith, nat_tests)
