-- What the parts of the price check ask and answer.
use Rattle.std.specs.Prelude.{ℕ, ◌+◌, Bool, cond, List, ltb, get_or}
use Rattle.finite.specs.Lists.{Picks}
use Rattle.model.specs.Limits.{max_price}
use Rattle.model.specs.Sheet.{chores_of}
use Rattle.model.specs.Prices.{price_sum, price_up_to_one}
use Rattle.model.specs.Replies.{Reply, price_envy, accepted}
use Rattle.model.specs.Verdicts.{first_of_pair, second_of_pair}
use Rattle.given.specs.Given.{Given}

-- the lists that a price check is not turned down for
pub record PricesGiven (s owners prices : List ℕ) : Type 0 where
  pub given : Given s owners
  pub priced : Picks max_price (chores_of s) prices

-- agent i's price up to one is above agent j's price sum
unfoldable pub outpays : ℕ → (ℕ → ℕ) → (ℕ → ℕ) → ℕ → ℕ → Bool
outpays m x p i j = ltb (price_sum m x p j) (price_up_to_one m x p i)

-- the same, by lists of both
unfoldable pub above : List ℕ → List ℕ → ℕ → ℕ → Bool
above ups sums i j = ltb (get_or sums j 0) (get_or ups i 0)

-- "else `price envy i j`, the first pair ..; else `accepted`", for a test of pairs
unfoldable pub envy_verdict : ℕ → (ℕ → ℕ → Bool) → Reply
envy_verdict n t =
    cond (ltb (first_of_pair n t) n) (price_envy (first_of_pair n t + 1) (second_of_pair n t + 1)) accepted
