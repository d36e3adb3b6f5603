-- A problem to be solved, apart from the bytes that it was read from. Agents (document 01: people) and chores (reels) are counted from 0
-- here; document 01's number of each is one more.
use Rattle.std.specs.Prelude.{ℕ, ◌-◌, Bool, cond, List, get_or}

pub record Instance : Type 0 where
  -- the number of agents
  pub n : ℕ
  -- the number of chores
  pub m : ℕ
  -- the easy weight
  pub a : ℕ
  -- the difficult weight
  pub b : ℕ
  -- agent i finds chore c easy
  pub easy : ℕ → ℕ → Bool

-- "`e` costs a, `d` costs b"
unfoldable pub cost : Instance → ℕ → ℕ → ℕ
cost I i c = cond (I.easy i c) I.a I.b

-- "An owner list holds one byte per reel, the owner's number": the agent who owns chore c
unfoldable pub owner_of : List ℕ → ℕ → ℕ
owner_of owners c = get_or owners c 0 - 1

-- "a price list holds one unsigned 32-bit number per reel": the price of chore c
unfoldable pub price_of : List ℕ → ℕ → ℕ
price_of prices c = get_or prices c 0
