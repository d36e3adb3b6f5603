-- `strands::join_sheets` meets its contract: nothing is written before nothing can be refused any more.
use mathlib.Core.Path.{◌≡◌, sym}
use native.Mathlib.Omega.{arith}
use lib.ListN.{length}
use Rattle.model.specs.Refusals.{join_refusal}
use Rattle.model.proofs.Refusing.{left}
use Rattle.strands.specs.Parts.{Room}
use Rattle.strands.proofs.Refusals.{joinable_headers, join_joinable, join_room}
use Rattle.strands.proofs.Joining.{header_room, still_room, sheet_made, not-joined, all_joined}
use Rattle.strands.proofs.join_sheets.Goals as goal
use Rattle.strands.proofs.join_sheets.Goals.{In_ok-admit_join}

-- nothing is refused
right : (c : In_ok-admit_join) → join_refusal c.args.first.now c.args.second.now (length c.args.joined.now) ≡ 0
right c = sym c.in_ok-admit_join.ensures

lent : (c : In_ok-admit_join) → Room c.args.first.now c.args.second.now c.args.joined.now
lent c = record { joinable = join_joinable _ _ _ (right c); room = join_room _ _ _ (right c) }

pub returns-in_err-admit_join : goal.returns-in_err-admit_join
returns-in_err-admit_join c = not-joined _ _ _ (left c.from_residual.result _ c.from_residual.ensures.1 c.in_err-admit_join.ensures)

pub joined_chores-m-requires : goal.joined_chores-m-requires
joined_chores-m-requires c = joinable_headers (lent (goal.at.joined_chores-m-requires c).In_ok-admit_join).joinable

pub write_header-requires : goal.write_header-requires
write_header-requires c =
    let room = lent (goal.at.write_header-requires c).In_ok-admit_join in
    record {
      header_size_in_bounds = room.joinable.valid_first.header;
      header_size_in_bounds_2 = header_room room;
      m_bound = omega (arith, c.joined_chores-m.ensures, room.joinable.fits);
    }

pub write_rows-requires : goal.write_rows-requires
write_rows-requires c = still_room (lent (goal.at.write_rows-requires c).In_ok-admit_join) c.joined_chores-m.ensures c.write_header.ensures

pub joined_size-requires : goal.joined_size-requires
joined_size-requires c = (lent (goal.at.joined_size-requires c).In_ok-admit_join).joinable

pub returns : goal.returns
returns c =
    let begun = (goal.at.returns c).In_ok-admit_join in
    all_joined _ _ _ (right begun) c.joined_size.ensures (sheet_made (lent begun) c.joined_chores-m.ensures c.write_header.ensures c.write_rows.ensures)
