-- A reached state is ready for a turn, and its table can be filled.
-- Assumes nothing.
use Prim.Native.Nat.{ℕ}
use mathlib.Core.List.{List}
use Rattle.model.specs.Sheet.{as_read}
use Rattle.model.specs.Algorithm.{group, is_entitled}
use Rattle.sheet.specs.Valid.{Valid}
use Rattle.algorithm.specs.Reached.{Reached}
use Rattle.market.specs.Market.{group_of, entitled_of, Liked}
use Rattle.firsts.specs.Table.{Sized}
use Rattle.seeking.specs.Looks.{Ready}
use Rattle.seeking.proofs.Ready.{listed}
use Rattle.steps.specs.Turns.{state_of, Filling}

-- a reached state is ready for a turn
pub reached_ready : {s owners prices groups entitled likes : List ℕ} {moves cuts stage : ℕ} → Valid s → Reached (as_read s) (state_of owners prices groups entitled moves cuts stage) → Liked (as_read s) likes → Ready s owners prices groups entitled likes
unfolding as_read group_of entitled_of group is_entitled
reached_ready v R liking =
    record {
      valid = v;
      owners_sized = R.shaped.owners;
      prices_sized = R.shaped.prices;
      groups_sized = R.shaped.groups;
      entitled_sized = R.shaped.entitled;
      numbered = R.shaped.numbered;
      core = R.core;
      liking = liking;
    }

pub filling : {s owners prices groups entitled likes first sets : List ℕ} → Ready s owners prices groups entitled likes → Sized first sets → Filling s owners prices groups entitled likes first sets
filling R z =
    record { valid = R.valid; owners_sized = R.owners_sized; groups_sized = R.groups_sized; listed = listed R; sized = z }
