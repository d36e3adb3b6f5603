-- A turn, counted: what it is counted from, where the run stands after it, and each kind of turn.
-- Assumes nothing.
use Rattle.std.specs.Prelude.{ℕ, ◌+◌, ◌-◌, ◌≤◌, ◌<◌, true, false, List, length}
use mathlib.Core.Path.{◌≡◌, refl}
use Rattle.finite.proofs.Tests.{clash}
use Rattle.model.specs.Limits.{max_agents}
use Rattle.model.specs.MostMoves.{most_ever}
use Rattle.model.specs.Sheet.{agents_of}
use Rattle.records.specs.Noted.{move_of, Numbers, Noted}
use Rattle.sheet.specs.Valid.{Valid}
use Rattle.steps.specs.declared.Stand.{Stand}
use Rattle.steps.specs.declared.Turn.{Turn}
use Rattle.steps.specs.declared.Turn.TheVariants.{Moved, Passed, Cut, Ended}
use Rattle.steps.specs.Turns.{is_cut}
use Rattle.runs.specs.Runs.{Sees}

-- safety: what a turn is counted from
pub record Counting (s groups : List ℕ) (answer : Turn) (at : Stand) : Type 0 where
  pub valid : Valid s
  pub groups_sized : length groups ≡ agents_of s
  pub moves_fit : at.moves ≤ most_ever
  pub cuts_fit : at.cuts < max_agents
  pub numbers : (c w u : ℕ) → answer ≡ Moved c w u → Numbers c w u at.cuts
  pub stage_left : answer ≡ Passed → 0 < at.stage

-- the counters after a turn
unfoldable pub moves_after : Turn → ℕ → ℕ
moves_after (Moved chore giver receiver) moves = moves + 1
moves_after Passed moves = moves
moves_after Cut moves = moves
moves_after Ended moves = moves

unfoldable pub cuts_after : Turn → ℕ → ℕ
cuts_after (Moved chore giver receiver) cuts = cuts
cuts_after Passed cuts = cuts
cuts_after Cut cuts = cuts + 1
cuts_after Ended cuts = cuts

unfoldable pub stage_after : Turn → ℕ → ℕ → ℕ
stage_after (Moved chore giver receiver) cuts stage = stage
stage_after Passed cuts stage = stage - 1
stage_after Cut cuts stage = cuts
stage_after Ended cuts stage = stage

-- a move is noted, and any other turn leaves the record alone
unfoldable pub Told : Turn → Stand → List ℕ → List ℕ → Type 0
Told (Moved chore giver receiver) at bytes bytes' = Noted at.moves (move_of chore giver receiver at.cuts at.stage) bytes bytes'
Told Passed at bytes bytes' = bytes' ≡ bytes
Told Cut at bytes bytes' = bytes' ≡ bytes
Told Ended at bytes bytes' = bytes' ≡ bytes

-- a turn at `at` has been counted, and told in the record; `groups` are those after it, and only a cut gives them a new view
pub record Counted (s groups : List ℕ) (answer : Turn) (at at' : Stand) (bytes bytes' : List ℕ) : Type 0 where
  pub moves : at'.moves ≡ moves_after answer at.moves
  pub cuts : at'.cuts ≡ cuts_after answer at.cuts
  pub stage : at'.stage ≡ stage_after answer at.cuts at.stage
  pub told : Told answer at bytes bytes'
  pub looked : is_cut answer ≡ true → Sees s groups at'.view
  pub kept : is_cut answer ≡ false → at'.view ≡ at.view

module _ {s groups : List ℕ} {answer : Turn} {at at' : Stand} {bytes bytes' : List ℕ} where
  pub count-move :
      {c w u : ℕ} → answer ≡ Moved c w u
      → at'.moves ≡ at.moves + 1 → at'.cuts ≡ at.cuts → at'.stage ≡ at.stage → at'.view ≡ at.view
      → Noted at.moves (move_of c w u at.cuts at.stage) bytes bytes' → Counted s groups answer at at' bytes bytes'
  unfolding is_cut moves_after cuts_after stage_after Told
  count-move e moves cuts stage view N =
      rw e (record { moves = moves; cuts = cuts; stage = stage; told = N; looked = λ q. absurd (clash q refl); kept = λ q. view })

  pub count-pass :
      answer ≡ Passed
      → at'.moves ≡ at.moves → at'.cuts ≡ at.cuts → at'.stage ≡ at.stage - 1 → at'.view ≡ at.view
      → bytes' ≡ bytes → Counted s groups answer at at' bytes bytes'
  unfolding is_cut moves_after cuts_after stage_after Told
  count-pass e moves cuts stage view N =
      rw e (record { moves = moves; cuts = cuts; stage = stage; told = N; looked = λ q. absurd (clash q refl); kept = λ q. view })

  pub count_cut :
      answer ≡ Cut
      → at'.moves ≡ at.moves → at'.cuts ≡ at.cuts + 1 → at'.stage ≡ at.cuts → Sees s groups at'.view
      → bytes' ≡ bytes → Counted s groups answer at at' bytes bytes'
  unfolding is_cut moves_after cuts_after stage_after Told
  count_cut e moves cuts stage view N =
      rw e (record { moves = moves; cuts = cuts; stage = stage; told = N; looked = λ q. view; kept = λ q. absurd (clash refl q) })
