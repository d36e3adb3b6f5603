-- Reachability in rounds: a search from a set of places along links.
use Rattle.std.specs.Prelude.{ℕ, zero, suc, Bool, ◌&&◌, ◌||◌}
use Rattle.finite.specs.Search.{any_below}

-- i is a start, or is linked, in t rounds or fewer, to one; `link i j` takes j to i
unfoldable pub reach : ℕ → (ℕ → Bool) → (ℕ → ℕ → Bool) → ℕ → ℕ → Bool
reach n start link zero i = start i
reach n start link (suc t) i =
    reach n start link t i || any_below n (λ j. reach n start link t j && link i j)
