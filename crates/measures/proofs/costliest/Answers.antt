-- `measures::costliest` meets its contract: a fold over the first n costs.
use Rattle.std.proofs.Common.{◌≤◌, ◌≡◌, ◌∙◌, max, rules, length, take, arith}
use Rattle.std.specs.List.{fold}
use Rattle.measures.proofs.Greatest.{front_top}
use Rattle.measures.proofs.costliest.Goals as goal

pub returns : goal.returns
returns c =
    let costs = c.args.costs.now in
    let over : c.fold.result ≡ fold max 0 (take c.args.n costs) = search rules in
    let room : c.args.n ≤ length costs = omega arith in
    over ∙ front_top costs room
