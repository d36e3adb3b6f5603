-- The numbers of the kinds, and what the price check asks of the list that is lent for the prices as numbers.
use Rattle.std.specs.Prelude.{ℕ, ◌+◌, List, ◌≡◌, length}
use Rattle.cchecks.specs.declared.Kind.{Kind}
use Rattle.model.specs.Limits.{max_chores}
use Rattle.model.specs.Refusals.{sheet_refusal}

abbrev pub kind_number : Kind → ℕ
kind_number Kind.Holds = 1
kind_number Kind.Unfair = 2
kind_number Kind.Wasteful = 3
kind_number Kind.Accepted = 4
kind_number Kind.OffPrice = 5
kind_number Kind.PriceEnvy = 6

-- a sheet that is not turned down, and one place more than there can be chores
pub record ForPrices (s lent : List ℕ) : Type 0 where
  pub fine : sheet_refusal s ≡ 0
  pub long : length lent ≡ max_chores + 1
