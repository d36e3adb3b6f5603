-- The moves of a sheet's share-out.
use Rattle.std.specs.Prelude.{ℕ, List}
use Rattle.model.specs.Sheet.{as_read}
use Rattle.model.specs.Record.{Move, moves_in}
use Rattle.algorithm.specs.RunMoves.{enough_steps}

-- the moves of as many steps as are enough
unfoldable pub moves_for : List ℕ → List Move
moves_for s = moves_in (as_read s) (enough_steps (as_read s))
