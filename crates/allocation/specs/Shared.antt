-- The share-out of a sheet that breaks no rule, on lists of exactly one entry for each chore.
use Rattle.std.specs.Prelude.{ℕ, ◌≤◌, List, ◌≡◌, length, replicate, Ok}
use Rattle.model.specs.declared.ShareOut.{ShareOut}
use Rattle.model.specs.Sheet.{agents_of, chores_of, as_read}
use Rattle.model.specs.Algorithm.{State, Ends}
use Rattle.model.specs.Record.{moves_in}
use Rattle.model.specs.Promises.{Allocated}
use Rattle.records.specs.Noted.{Holding}
use Rattle.sheet.specs.Valid.{Valid}
use Rattle.runs.specs.Runs.{RunEnds}

pub record Sharing (s owners prices : List ℕ) : Type 0 where
  pub valid : Valid s
  pub owners_sized : length owners ≡ chores_of s
  pub prices_sized : length prices ≡ chores_of s

-- nobody is in a group, no chore is entitled, and none is liked yet
pub record Working (s groups entitled likes : List ℕ) : Type 0 where
  pub no_groups : groups ≡ replicate (agents_of s) 0
  pub none_entitled : entitled ≡ replicate (chores_of s) 0
  pub no_likes : likes ≡ replicate (chores_of s) 0

-- lists of at least as many entries; no chore is entitled, and none is liked
pub record Long (s entitled likes : List ℕ) : Type 0 where
  pub none_entitled : entitled ≡ replicate (length entitled) 0
  pub no_likes : likes ≡ replicate (length likes) 0
  pub entitled_fit : chores_of s ≤ length entitled
  pub likes_fit : chores_of s ≤ length likes

-- the run has ended with these owners, prices and counters, and its moves are in `bytes`; its groups and entitled marks stay inside
pub record Shared (s owners prices lent bytes : List ℕ) (moves cuts : ℕ) : Type 0 where
  pub groups : List ℕ
  pub entitled : List ℕ
  pub ended : RunEnds s owners prices groups entitled lent bytes moves cuts

-- What a share-out leaves that is not turned down: all that `allocate` promises, and the run's moves in `bytes`.
pub record SharedWith (s owners prices scratch lent owners' prices' scratch' bytes : List ℕ) (r : ShareOut) : Type 0 where
  pub allocated : Allocated s owners prices scratch owners' prices' scratch' (Ok r)
  pub final : State
  pub ends : Ends (as_read s) final
  pub noted : Holding (moves_in (as_read s) ends.steps) lent bytes
