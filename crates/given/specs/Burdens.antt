-- The test that the search for an agent's burden goes by, on the sheet and the list as they are handed in.
use Rattle.std.specs.Prelude.{ℕ, Bool, not, ◌&&◌, List}
use Rattle.model.specs.Instance.{owner_of}
use Rattle.model.specs.Sheet.{marks_easy}
use Rattle.model.specs.Fairness.{owns}

-- chore c is agent i's, and difficult for it
unfoldable pub burdens : List ℕ → List ℕ → ℕ → ℕ → Bool
burdens s owners i c = owns (owner_of owners) i c && not (marks_easy s i c)
