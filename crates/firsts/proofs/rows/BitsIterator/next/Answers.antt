-- `firsts::rows::Bits` meets the contract of its `next`: the lowest bit is given and dropped.
use Rattle.std.proofs.Common.{arith}
use Rattle.std.specs.Int.Count.{count_trailing_zeros}
use Rattle.finite.proofs.LowestBit.{Lowest, lowest, lowest_clear, rest_all}
use Rattle.firsts.proofs.rows.BitsIterator.next.Goals as goal

pub returns-clause-steps : goal.returns-clause-steps
returns-clause-steps c =
    let word = c.args.self.now.0 in
    let turn : Lowest 64 64 word (count_trailing_zeros 64 word) = lowest 64 (omega arith) (omega arith) (rest_all word) (omega arith) in
    record { lowest = record { below = turn.below; passes = turn.is_set; before = lowest_clear 64 word }; dropped = rw turn.dropped (omega (arith, turn.part)) }
