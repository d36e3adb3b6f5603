-- What the price cut is given, and what it leaves.
use Rattle.std.specs.Prelude.{ℕ, ◌*◌, ◌/◌, ◌≤◌, ◌<◌, cond, List, ◌≡◌, length, get_or}
use Rattle.finite.specs.Bits.{bit}
use Rattle.finite.specs.Lists.{tabulate}
use Rattle.model.specs.Limits.{max_weight}
use Rattle.model.specs.Instance.{owner_of}
use Rattle.totals.specs.Totals.{Held}

pub record Cutting (owners prices entitled : List ℕ) (a b : ℕ) : Type 0 where
  pub held : Held owners prices
  pub entitled_sized : length entitled ≡ length owners
  pub less : a < b
  pub weight : b ≤ max_weight

pub record CutPrices (owners prices entitled prices' entitled' : List ℕ) (reached a b : ℕ) : Type 0 where
  pub new_prices : prices' ≡ tabulate (length owners) (λ c. cond (bit reached (owner_of owners c)) (get_or prices c 0 * a / b) (get_or prices c 0))
  pub new_entitled : entitled' ≡ tabulate (length owners) (λ c. cond (bit reached (owner_of owners c)) 1 (get_or entitled c 0))
