-- What a move is sought by, and what seeking it finds.
use Rattle.std.specs.Prelude.{ℕ, ◌*◌, ◌≤◌, ◌<◌, Bool, true, false, List, ◌≡◌, length, get_or}
use Rattle.finite.specs.Bits.{bit}
use Rattle.finite.specs.Search.{any_below, first_below}
use Rattle.model.specs.Instance.{owner_of, price_of}
use Rattle.model.specs.Sheet.{agents_of, chores_of, easy_weight, difficult_weight, as_read}
use Rattle.model.specs.Step2a.{due2a, giver2a, receiver2a}
use Rattle.model.specs.Step2b.{above}
use Rattle.sheet.specs.Valid.{Valid}
use Rattle.algorithm.specs.Core.{Core}
use Rattle.market.specs.Market.{group_of, entitled_of, ByGroup, Liked}
use Rattle.firsts.specs.Traits.{free_trait, has_trait}
use Rattle.firsts.specs.Table.{Firsts}
use Rattle.rings.specs.Search.{Searched}
use Rattle.seeking.specs.declared.Due.{Due}
use Rattle.seeking.specs.declared.Due.TheVariants.{Hand, Pass, Cut, End}

-- the lists of a state with the core invariant
pub record Ready (s owners prices groups entitled likes : List ℕ) : Type 0 where
  pub valid : Valid s
  pub owners_sized : length owners ≡ chores_of s
  pub prices_sized : length prices ≡ chores_of s
  pub groups_sized : length groups ≡ agents_of s
  pub entitled_sized : length entitled ≡ chores_of s
  pub numbered : (c : ℕ) → c < chores_of s → 0 < get_or owners c 0
  pub core : Core (as_read s) (owner_of owners) (price_of prices) (group_of groups) (entitled_of entitled)
  pub liking : Liked (as_read s) likes

-- the sets of agents in no group (free) and in some group (grouped), and the three prices that there are
pub record Views (s groups : List ℕ) (free grouped low mid top : ℕ) : Type 0 where
  pub sides : ByGroup (agents_of s) groups free grouped
  pub low_is : low ≡ easy_weight s * easy_weight s
  pub mid_is : mid ≡ easy_weight s * difficult_weight s
  pub top_is : top ≡ difficult_weight s * difficult_weight s

-- what a move is sought by: a state, and the sets of its table
pub record Looking (s owners prices groups sets : List ℕ) (free grouped low mid top : ℕ) : Type 0 where
  pub entitled : List ℕ
  pub likes : List ℕ
  pub first : List ℕ
  pub ready : Ready s owners prices groups entitled likes
  pub views : Views s groups free grouped low mid top
  pub rows : Firsts (agents_of s) (chores_of s) (owner_of owners) (has_trait prices entitled likes free grouped mid top) first sets

-- and in 2b, whatever the groups' numbers
pub record Seeing (s owners prices sets : List ℕ) (free grouped low mid top : ℕ) : Type 0 where
  pub groups : List ℕ
  pub looking : Looking s owners prices groups sets free grouped low mid top

-- 2b: the search's answer on the state, in the scratch too; the receiver is the lowest of those whom it found
pub record Look (s owners prices : List ℕ) (giver receiver sought : ℕ) (any : Bool) (lent scratch : List ℕ) : Type 0 where
  pub size : length scratch ≡ length lent
  pub takers : ℕ
  pub searched : Searched (as_read s) (owner_of owners) (price_of prices) giver takers lent scratch
  pub receives : receiver ≡ first_below (agents_of s) (bit takers)
  pub sought_is : sought ≡ receiver
  pub any_is : any ≡ any_below (agents_of s) (above (as_read s) (owner_of owners) (price_of prices))

-- 2a at a group: the move that is due, whichever chores are entitled, or none
pub record Choice (s owners prices groups : List ℕ) (stage giver receiver sought : ℕ) : Type 0 where
  pub limit : giver ≤ agents_of s
  pub due : giver < agents_of s → (cut : ℕ → Bool) → due2a (as_read s) (owner_of owners) (price_of prices) (group_of groups) cut stage ≡ true
  pub gives : giver < agents_of s → (cut : ℕ → Bool) → giver ≡ giver2a (as_read s) (owner_of owners) (price_of prices) (group_of groups) cut stage
  pub takes : giver < agents_of s → (cut : ℕ → Bool) → receiver ≡ receiver2a (as_read s) (owner_of owners) (price_of prices) (group_of groups) cut stage
  pub known : giver < agents_of s → receiver < agents_of s
  pub none : giver ≡ agents_of s → (cut : ℕ → Bool) → due2a (as_read s) (owner_of owners) (price_of prices) (group_of groups) cut stage ≡ false
  pub sought_is : sought ≡ free_trait

-- either
pub record Sought (s owners prices groups : List ℕ) (stage giver receiver sought : ℕ) (any : Bool) (lent scratch : List ℕ) : Type 0 where
  pub size : length scratch ≡ length lent
  pub in2b : stage ≡ 0 → Look s owners prices giver receiver sought any lent scratch
  pub in2a : 0 < stage → Choice s owners prices groups stage giver receiver sought

-- what is due: a move; in 2a, on to the next group; in 2b, with nobody to give, the cut or the end
abbrev pub IsDue : List ℕ → List ℕ → List ℕ → List ℕ → ℕ → Due → List ℕ → List ℕ → Type 0
IsDue s owners prices groups stage (Hand m) lent scratch = (m.giver < agents_of s) × Sought s owners prices groups stage m.giver m.receiver m.sought true lent scratch
IsDue s owners prices groups stage Pass lent scratch = (0 < stage) × Sought s owners prices groups stage (agents_of s) (agents_of s) free_trait false lent scratch
IsDue s owners prices groups stage Cut lent scratch = (stage ≡ 0) × Sought s owners prices groups stage (agents_of s) (agents_of s) (agents_of s) true lent scratch
IsDue s owners prices groups stage End lent scratch = (stage ≡ 0) × Sought s owners prices groups stage (agents_of s) (agents_of s) (agents_of s) false lent scratch
