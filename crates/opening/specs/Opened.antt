-- What the opening is given, and what it leaves.
use Rattle.std.specs.Prelude.{ℕ, ◌+◌, ◌*◌, ◌≤◌, ◌<◌, true, List, ◌≡◌, ltb, length, get_or, replicate}
use Rattle.finite.specs.Bits.{bit, SetOf}
use Rattle.finite.specs.Search.{first_below, chosen}
use Rattle.finite.specs.Lists.{tabulate}
use Rattle.model.specs.Limits.{max_agents}
use Rattle.model.specs.Sheet.{agents_of, chores_of, marks_easy, as_read}
use Rattle.model.specs.Algorithm.{opening_owner, opening_price}
use Rattle.market.specs.Market.{Liked}

-- the first `count` marks of byte k of agent i's row
pub record ByteOf (s : List ℕ) (i k count : ℕ) : Type 0 where
  pub agent : i < agents_of s
  pub slot : i < max_agents
  pub some : 0 < count
  pub most : count ≤ 8
  pub within : 8 * k + count ≤ chores_of s

-- for each chore, of the first i agents those who mark it easy; agent i's marks are in too for the chores before c
pub record Marked (s : List ℕ) (i c : ℕ) (likes : List ℕ) : Type 0 where
  pub likes_sized : length likes ≡ chores_of s
  pub passed : (d : ℕ) → d < c → SetOf (i + 1) (get_or likes d 0) (λ k. marks_easy s k d)
  pub ahead : (d : ℕ) → c ≤ d → d < chores_of s → SetOf i (get_or likes d 0) (λ k. marks_easy s k d)

-- the owner of a chore that the agents of a word find easy, where `held` has how many chores each agent holds
pub record OpensWith (n easy : ℕ) (held : List ℕ) (owner : ℕ) : Type 0 where
  pub easy_for : (easy ≡ 0 → ⊥) → owner ≡ first_below n (λ i. bit easy i)
  pub dear : easy ≡ 0 → owner ≡ chosen n (λ i. true) (λ j i. ltb (get_or held j 0) (get_or held i 0))

-- an entry for each chore in each list that the opening fills, and nobody likes any yet
pub record OpenInto (s owners prices likes : List ℕ) : Type 0 where
  pub owners_sized : length owners ≡ chores_of s
  pub prices_sized : length prices ≡ chores_of s
  pub no_likes : likes ≡ replicate (chores_of s) 0

pub record Opened (s owners prices likes : List ℕ) : Type 0 where
  pub opens_owners : owners ≡ tabulate (chores_of s) (λ c. opening_owner (as_read s) c + 1)
  pub opens_prices : prices ≡ tabulate (chores_of s) (opening_price (as_read s))
  pub liking : Liked (as_read s) likes
