-- The search of 2b over offers: for each agent the set of those who want one of its chores.
use Rattle.std.specs.Prelude.{ℕ, suc, ◌-◌, ◌≤◌, ◌<◌, true, false, ◌&&◌, List, ◌≡◌, length, get_or}
use Rattle.finite.specs.Bits.{bit, SetOf}
use Rattle.model.specs.Limits.{max_agents, scratch_size}
use Rattle.model.specs.Instance.{Instance}
use Rattle.model.specs.Prices.{price_sum, price_up_to_one}
use Rattle.model.specs.Step2b.{least_sum, supplies, at_distance, ring2b, due2b, giver2b}
use Rattle.rings.specs.Line.{Lined}

-- safety: an entry for each of n agents, and the scratch
pub record Lists (n : ℕ) (offers sums ups scratch : List ℕ) : Type 0 where
  pub agents : n ≤ max_agents
  pub offers_fit : n ≤ length offers
  pub sums_fit : n ≤ length sums
  pub ups_fit : n ≤ length ups
  pub scratch_sized : length scratch ≡ scratch_size

-- What the search starts from, in the market I with owners x and prices p.
pub record Searching (I : Instance) (x p : ℕ → ℕ) (offers sums ups : List ℕ) (least : ℕ) : Type 0 where
  pub some : 0 < I.n
  -- of the bits of an offer those of agents count
  pub offered : (i j : ℕ) → i < I.n → j < I.n → bit (get_or offers i 0) j ≡ supplies I x p i j
  pub sum : (i : ℕ) → i < I.n → get_or sums i 0 ≡ price_sum I.m x p i
  pub up : (i : ℕ) → i < I.n → get_or ups i 0 ≡ price_up_to_one I.m x p i
  pub least_is : least ≡ least_sum I x p

-- What it found: the giver and those of the ring before who want a chore of the giver, or nobody. In the scratch stands everyone reached, up to
-- the giver, or else up to the last of all rings: no distance is above n - 1.
pub record Searched (I : Instance) (x p : ℕ → ℕ) (giver takers : ℕ) (lent scratch : List ℕ) : Type 0 where
  pub limit : giver ≤ I.n
  pub due : giver < I.n → due2b I x p ≡ true
  pub gives : giver < I.n → giver ≡ giver2b I x p
  pub takes : giver < I.n → SetOf I.n takers (λ j. at_distance I x p (ring2b I x p - 1) j && supplies I x p (giver2b I x p) j)
  pub up_to_giver : giver < I.n → Lined I.n (at_distance I x p) (ring2b I x p) (suc (giver2b I x p)) lent scratch
  pub none : giver ≡ I.n → due2b I x p ≡ false
  pub all : giver ≡ I.n → Lined I.n (at_distance I x p) I.n 0 lent scratch

-- The search's answer: of every market, all owners and all prices that the lists can stand for.
pub record Answered (n : ℕ) (offers sums ups : List ℕ) (least giver takers : ℕ) (lent scratch : List ℕ) : Type 0 where
  pub limit : giver ≤ n
  pub searched :
      (I : Instance) (x p : ℕ → ℕ)
      → I.n ≡ n → Searching I x p offers sums ups least
      → Searched I x p giver takers lent scratch
