-- The tests that the searches for waste go by, on the sheet and the list as they are handed in.
use Rattle.std.specs.Prelude.{ℕ, Bool, not, ◌&&◌, List, ltb, get_or}
use Rattle.finite.specs.Search.{any_below}
use Rattle.model.specs.Instance.{owner_of}
use Rattle.model.specs.Sheet.{agents_of, marks_easy}
use Rattle.model.specs.Fairness.{owns}
use Rattle.waste.specs.Rings.{no_distance}

-- chore c is agent i's, easy for it and easy for agent j
unfoldable pub shares : List ℕ → List ℕ → ℕ → ℕ → ℕ → Bool
shares s owners j i c = owns (owner_of owners) i c && (marks_easy s i c && marks_easy s j c)

-- agent j's distance is less than the limit, and chore c easy for it
unfoldable pub takes : List ℕ → List ℕ → ℕ → ℕ → ℕ → Bool
takes s distances limit c j = ltb (get_or distances j 0) limit && marks_easy s j c

-- chore c is difficult for its owner, and easy for an agent that has a distance
unfoldable pub wasted : List ℕ → List ℕ → List ℕ → ℕ → Bool
wasted s owners distances c =
    not (marks_easy s (owner_of owners c) c) && any_below (agents_of s) (takes s distances no_distance c)

-- chore c is agent h's, easy for it, and easy for an agent nearer than the limit
unfoldable pub passable : List ℕ → List ℕ → List ℕ → ℕ → ℕ → ℕ → Bool
passable s owners distances limit h c =
    owns (owner_of owners) h c && (marks_easy s h c && any_below (agents_of s) (takes s distances limit c))
