-- Document 01, "2a": the move that is due at one cut group. x gives each chore's owner, p its price, `group` each agent's cut group (0: none),
-- `entitled` the entitled chores, and `stage` is the group at work.
use Rattle.std.specs.Prelude.{ℕ, Bool, not, ◌&&◌, eqb, ltb}
use Rattle.finite.specs.Search.{first_below, chosen}
use Rattle.model.specs.Instance.{Instance}
use Rattle.model.specs.Fairness.{owns}
use Rattle.model.specs.Prices.{price_sum, price_up_to_one}

module _ (I : Instance) (x p group : ℕ → ℕ) (entitled : ℕ → Bool) (stage : ℕ) where
  -- "the giver is the group member of greatest price-one"
  unfoldable pub giver2a : ℕ
  giver2a =
      chosen I.n (λ i. eqb (group i) stage) (λ j i. ltb (price_up_to_one I.m x p i) (price_up_to_one I.m x p j))

  -- "the receiver the person of least price sum in the later groups"
  unfoldable pub receiver2a : ℕ
  receiver2a =
      chosen I.n (λ i. ltb stage (group i)) (λ j i. ltb (price_sum I.m x p j) (price_sum I.m x p i))

  -- "While the giver's price-one is strictly above that sum"
  unfoldable pub due2a : Bool
  due2a =
      ltb giver2a I.n
      && (ltb receiver2a I.n && ltb (price_sum I.m x p receiver2a) (price_up_to_one I.m x p giver2a))

  -- "the giver's lowest reel that is not entitled moves"
  unfoldable pub chore2a : ℕ
  chore2a = first_below I.m (λ c. owns x giver2a c && not (entitled c))
