-- `allocation::share_with` meets its contract.
use Rattle.allocation.proofs.Sharing.{begins}
use Rattle.allocation.proofs.share_with.Goals as goal

pub run-requires-clause-kit : goal.run-requires-clause-kit
run-requires-clause-kit c =
    let pre = c.requires.sharing in
    let opened = c.«open».ensures in
    (record { valid = pre.0.valid; liking = opened.liking }, begins pre.1 opened c.args.«record».now)
