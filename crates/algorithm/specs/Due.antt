-- The facts of a due move of step 2b, whatever search found it.
use Rattle.std.specs.Prelude.{ℕ, suc, ◌<◌, ◌≤◌, true, false, ◌≡◌}
use Rattle.model.specs.Instance.{Instance}
use Rattle.model.specs.Prices.{best, price_up_to_one}
use Rattle.model.specs.Step2b.{least_sum, within}

-- agent w, at distance t + 1, gives chore k to agent u, who has a smaller distance
pub record Due (I : Instance) (x p : ℕ → ℕ) (t w u k : ℕ) : Type 0 where
  pub distance : t < I.n
  pub giver : w < I.n
  pub receiver : u < I.n
  pub chore : k < I.m
  pub owned : x k ≡ w
  pub wants : best I p u k ≡ true
  pub in_ring : within I x p (suc t) w ≡ true
  pub not_nearer : within I x p t w ≡ false
  pub near : within I x p t u ≡ true
  pub giver_above : least_sum I x p < price_up_to_one I.m x p w
  pub nobody_nearer : (i : ℕ) → i < I.n → within I x p t i ≡ true → price_up_to_one I.m x p i ≤ least_sum I x p
