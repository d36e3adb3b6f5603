-- The traits by which the table tells chores apart: that agent t wants it, for t below 32; then that it is not entitled, that it has the top
-- price, and that it has the middle one.
use Rattle.std.specs.Prelude.{ℕ, Bool, cond, not, List, eqb, ltb, get_or}
use Rattle.std.specs.Int.Bits.{bit_and, bit_or}
use Rattle.finite.specs.Bits.{bit}
use Rattle.model.specs.Limits.{max_agents}
use Rattle.market.specs.Market.{entitled_of}

abbrev pub trait_count : ℕ
trait_count = 35

abbrev pub free_trait : ℕ
free_trait = 32

abbrev pub top_trait : ℕ
top_trait = 33

abbrev pub mid_trait : ℕ
mid_trait = 34

-- Of the agents in no group (free) and in some group (grouped), those who want a chore that the agents in `likes` find ok: an entitled chore
-- is wanted by members of a group for whom it is ok, any other by those for whom it is ok and by every member of a group.
unfoldable pub wanting_word : ℕ → Bool → ℕ → ℕ → ℕ
wanting_word likes entitled free grouped = cond entitled (bit_and likes grouped) (bit_or (bit_and likes free) grouped)

-- a chore of this price has trait t
unfoldable pub trait_in : ℕ → Bool → ℕ → ℕ → ℕ → ℕ → ℕ → ℕ → Bool
trait_in price entitled likes free grouped mid top t =
    cond (ltb t max_agents) (bit (wanting_word likes entitled free grouped) t)
    (cond (eqb t free_trait) (not entitled) (eqb price (cond (eqb t top_trait) top mid)))

-- chore c has trait t
unfoldable pub has_trait : List ℕ → List ℕ → List ℕ → ℕ → ℕ → ℕ → ℕ → ℕ → ℕ → Bool
has_trait prices entitled likes free grouped mid top t c =
    trait_in (get_or prices c 0) (entitled_of entitled c) (get_or likes c 0) free grouped mid top t
