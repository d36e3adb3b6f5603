use Rattle.std.proofs.Common.{◌+◌, ◌*◌, ◌/◌, ◌%◌, ◌≡◌, length, refl, arith}
use Rattle.totals.proofs.Laning.{laned_none, laned_all, laned_fits}
use Rattle.totals.proofs.lanes.add_up.Goals as goal

pub loop-k-init : goal.loop-k-init
loop-k-init c = laned_none refl

pub add_lanes-requires : goal.add_lanes-requires
add_lanes-requires c =
    let all : 8 * (length c.args.owners.now / 8) + length c.args.owners.now % 8 ≡ length c.args.owners.now = omega arith in
    (record { fits = laned_fits c.requires.0 (omega arith) (rw all at c.add_some-2.ensures) }, c.requires.1)

pub returns : goal.returns
returns c =
    let all : 8 * (length c.args.owners.now / 8) + length c.args.owners.now % 8 ≡ length c.args.owners.now = omega arith in
    laned_all (rw all at c.add_some-2.ensures) c.add_lanes.ensures
