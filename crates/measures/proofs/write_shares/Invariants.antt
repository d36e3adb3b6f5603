-- The first i entries are the shares of the first i agents.
use Rattle.std.proofs.Common.{◌≡◌, ◌++◌, take, drop}
use Rattle.model.specs.MaximinShare.{measures_of}
use Rattle.measures.proofs.write_shares.Given as goal

abbrev pub invariant-loop-i : goal.invariant-loop-i
invariant-loop-i l = l.numbers ≡ take l.i (measures_of l.sheet) ++ drop l.i l.initial.numbers
