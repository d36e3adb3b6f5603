-- What a sheet's answer adds to the running tally.
use Rattle.std.specs.Prelude.{ℕ, ◌+◌, ◌^◌, ◌<◌, Result, Ok, Err, ◌≡◌}
use Rattle.model.specs.declared.Refusal.{Refusal}
use Rattle.model.specs.declared.ShareOut.{ShareOut}
use Rattle.model.specs.declared.Tally.{Tally}

abbrev pub moves_added : Result ShareOut Refusal → ℕ
moves_added (Ok out) = out.moves
moves_added (Err k) = 0

abbrev pub cuts_added : Result ShareOut Refusal → ℕ
cuts_added (Ok out) = out.cuts
cuts_added (Err k) = 0

-- a tally has room for so many more moves and cuts
pub record Fitting (t : Tally) (m c : ℕ) : Type 0 where
  pub moves : t.moves + m < 2 ^ 64
  pub cuts : t.cuts + c < 2 ^ 64

-- and has them
pub record Counted (t : Tally) (m c : ℕ) (t' : Tally) : Type 0 where
  pub moves : t'.moves ≡ t.moves + m
  pub cuts : t'.cuts ≡ t.cuts + c
