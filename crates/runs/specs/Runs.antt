-- The loop of the share-out: it holds a state that a run of Algorithm 1 comes to.
use Rattle.std.specs.Prelude.{ℕ, List, ◌≡◌}
use Rattle.model.specs.Sheet.{as_read}
use Rattle.model.specs.Algorithm.{busy, after, Ends}
use Rattle.model.specs.Record.{moves_in}
use Rattle.records.specs.Noted.{Holding}
use Rattle.sheet.specs.Valid.{Valid}
use Rattle.market.specs.Market.{Liked}
use Rattle.firsts.specs.declared.traits.View.{View}
use Rattle.steps.specs.declared.Stand.{Stand}
use Rattle.steps.specs.Turns.{state_of}
use Rattle.seeking.specs.Looks.{Views}

-- and its moves so far are in `bytes`, which were lent as `lent`
pub record Running (s owners prices groups entitled lent bytes : List ℕ) (moves cuts stage : ℕ) : Type 0 where
  pub count : ℕ
  pub comes : after (as_read s) count ≡ busy (state_of owners prices groups entitled moves cuts stage)
  pub noted : Holding (moves_in (as_read s) count) lent bytes

-- what the loop is given beside the run
pub record Kit (s likes : List ℕ) : Type 0 where
  pub valid : Valid s
  pub liking : Liked (as_read s) likes

-- the run has ended with these lists and counters, and its moves are in `bytes`
pub record RunEnds (s owners prices groups entitled lent bytes : List ℕ) (moves cuts : ℕ) : Type 0 where
  pub stage : ℕ
  pub ends : Ends (as_read s) (state_of owners prices groups entitled moves cuts stage)
  pub noted : Holding (moves_in (as_read s) ends.steps) lent bytes

-- the view is that of the groups
abbrev pub Sees : List ℕ → List ℕ → View → Type 0
Sees s groups v = Views s groups v.free v.grouped v.low v.mid v.top

-- no turn has been taken yet: 2b is due
pub record Begun (s groups : List ℕ) (at : Stand) : Type 0 where
  pub moves : at.moves ≡ 0
  pub cuts : at.cuts ≡ 0
  pub stage : at.stage ≡ 0
  pub sees : Sees s groups at.view
