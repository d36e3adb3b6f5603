-- Step 2a: the facts of a due move, whatever search found it.
use Rattle.std.specs.Prelude.{ℕ, ◌<◌, ◌≤◌, Bool, false, ◌≡◌}
use Rattle.model.specs.Instance.{Instance}
use Rattle.model.specs.Prices.{price_sum, price_up_to_one}

-- agent i of group g gives the uncut chore c to agent j of a later group
pub record DueA (I : Instance) (x p group : ℕ → ℕ) (cut : ℕ → Bool) (g i j c : ℕ) : Type 0 where
  pub some : 0 < g
  pub giver : i < I.n
  pub receiver : j < I.n
  pub at_work : group i ≡ g
  pub later : g < group j
  pub greatest : (k : ℕ) → k < I.n → group k ≡ g → price_up_to_one I.m x p k ≤ price_up_to_one I.m x p i
  pub least : (k : ℕ) → k < I.n → g < group k → price_sum I.m x p j ≤ price_sum I.m x p k
  pub above : price_sum I.m x p j < price_up_to_one I.m x p i
  pub chore : c < I.m
  pub owned : x c ≡ i
  pub uncut : cut c ≡ false
