-- Document 01, "2b": the search from everyone of least sum. x gives each chore's owner and p its price.
use Rattle.std.specs.Prelude.{ℕ, zero, suc, ◌-◌, Bool, not, ◌&&◌, eqb, ltb}
use Rattle.finite.specs.Sums.{min_to}
use Rattle.finite.specs.Search.{any_below, first_below}
use Rattle.finite.specs.Reach.{reach}
use Rattle.model.specs.Instance.{Instance}
use Rattle.model.specs.Fairness.{owns}
use Rattle.model.specs.Prices.{best, price_sum, price_up_to_one}

module _ (I : Instance) (x p : ℕ → ℕ) where
  -- the least price sum
  unfoldable pub least_sum : ℕ
  least_sum = min_to I.n (price_sum I.m x p)

  -- agent i's price-one "is strictly above the least sum"
  unfoldable pub above : ℕ → Bool
  above i = ltb least_sum (price_up_to_one I.m x p i)

  -- agent i owns a best chore of agent j
  unfoldable pub supplies : ℕ → ℕ → Bool
  supplies i j = any_below I.m (λ c. owns x i c && best I p j c)

  -- "Take everyone whose price sum is the least."
  unfoldable pub of_least_sum : ℕ → Bool
  of_least_sum i = eqb (price_sum I.m x p i) least_sum

  -- agent i has a distance of t or less. "They are at distance 0; whoever owns a best reel of somebody at distance t, and has no smaller
  -- distance, is at t+1."
  unfoldable pub within : ℕ → ℕ → Bool
  within t i = reach I.n of_least_sum supplies t i

  -- "everyone reachable from any person of least sum": no distance is above n - 1
  unfoldable pub reachable : ℕ → Bool
  reachable i = within I.n i

  -- agent i is in the ring at distance t
  unfoldable pub at_distance : ℕ → ℕ → Bool
  at_distance zero i = within zero i
  at_distance (suc t) i = within (suc t) i && not (within t i)

  -- the first "ring [that] holds a person whose price-one is strictly above the least sum"
  unfoldable pub ring2b : ℕ
  ring2b = first_below (suc I.n) (λ t. any_below I.n (λ i. at_distance t i && above i))

  -- there is such a ring
  unfoldable pub due2b : Bool
  due2b = ltb ring2b (suc I.n)

  -- "That person gives"
  unfoldable pub giver2b : ℕ
  giver2b = first_below I.n (λ i. at_distance ring2b i && above i)

  -- "to one in the ring before, namely one for whom the giver holds a best reel"
  unfoldable pub receiver2b : ℕ
  receiver2b = first_below I.n (λ j. at_distance (ring2b - 1) j && supplies giver2b j)

  -- "the lowest such reel moves"
  unfoldable pub chore2b : ℕ
  chore2b = first_below I.m (λ c. owns x giver2b c && best I p receiver2b c)
