-- The table of first chores. x gives each chore's owner, and `trait t c` says that chore c has trait t.
use Rattle.std.specs.Prelude.{ℕ, ◌+◌, ◌*◌, ◌^◌, ◌≤◌, ◌<◌, min, Bool, true, cond, not, ◌&&◌, List, ◌≡◌, eqb, ltb, length, get_or, set}
use Rattle.std.specs.Int.Bits.{bit_or}
use Rattle.finite.specs.Bits.{bit, SetOf}
use Rattle.finite.specs.Search.{any_below, first_below}
use Rattle.model.specs.Limits.{max_agents, max_chores}
use Rattle.model.specs.Instance.{owner_of}
use Rattle.model.specs.Fairness.{owns}
use Rattle.firsts.specs.Traits.{trait_count}

-- Agent w's row, where `own` are its chores: for each trait the first of them that has it, m where none has, and the set of the traits that
-- some of them has.
pub record Row (m : ℕ) (own : ℕ → Bool) (trait : ℕ → ℕ → Bool) (w : ℕ) (first sets : List ℕ) : Type 0 where
  pub entry : (t : ℕ) → t < trait_count → get_or first (w * trait_count + t) 0 ≡ first_below m (λ c. own c && trait t c)
  pub some : SetOf trait_count (get_or sets w 0) (λ t. any_below m (λ c. own c && trait t c))

-- an entry for each of 32 agents and 35 traits, and a set for each agent
pub record Sized (first sets : List ℕ) : Type 0 where
  pub first_sized : length first ≡ max_agents * trait_count
  pub sets_sized : length sets ≡ max_agents

-- the rows of n agents
pub record Firsts (n m : ℕ) (x : ℕ → ℕ) (trait : ℕ → ℕ → Bool) (first sets : List ℕ) : Type 0 where
  pub sized : Sized first sets
  pub row : (w : ℕ) → w < n → Row m (owns x w) trait w first sets

-- safety: the lists of the chores, each with an owner from 1 to n
pub record Listed (n : ℕ) (owners prices entitled likes : List ℕ) : Type 0 where
  pub agents : n ≤ max_agents
  pub chores : length owners ≤ max_chores
  pub prices_sized : length prices ≡ length owners
  pub entitled_sized : length entitled ≡ length owners
  pub likes_sized : length likes ≡ length owners
  pub numbered : (c : ℕ) → c < length owners → 0 < get_or owners c 0
  pub known : (c : ℕ) → c < length owners → get_or owners c 0 ≤ n

-- safety: a row, and a set of traits
pub record Spot (first : List ℕ) (w word : ℕ) : Type 0 where
  pub first_sized : length first ≡ max_agents * trait_count
  pub agent : w < max_agents
  pub traits : word < 2 ^ trait_count

-- in agent w's row chore c is the first with the traits of `word`; every other entry is as it was
pub record Put (w c word : ℕ) (first first' : List ℕ) : Type 0 where
  pub size : length first' ≡ length first
  pub entry :
      (v t : ℕ) → v < max_agents → t < trait_count
      → get_or first' (v * trait_count + t) 0 ≡ cond (eqb v w && bit word t) c (get_or first (v * trait_count + t) 0)

-- agent w has gained chore c, whose traits are `word`: the earlier chore is the first
pub record Gained (w c word : ℕ) (first sets first' sets' : List ℕ) : Type 0 where
  pub size : length first' ≡ length first
  pub entry :
      (v t : ℕ) → v < max_agents → t < trait_count
      → get_or first' (v * trait_count + t) 0 ≡ cond (eqb v w && bit word t) (min c (get_or first (v * trait_count + t) 0)) (get_or first (v * trait_count + t) 0)
  pub some : sets' ≡ set sets w (bit_or (get_or sets w 0) word)

-- the first of agent w's chores after c that has trait t, of m
unfoldable pub first_after : ℕ → (ℕ → ℕ) → (ℕ → ℕ → Bool) → ℕ → ℕ → ℕ → ℕ
first_after m x trait w c t = first_below m (λ d. ltb c d && (owns x w d && trait t d))

-- Agent w's row has been searched again from chore c on, for the traits of `missing`: those found have the first chore after c, and `left` are
-- the others.
pub record SearchedOn (m : ℕ) (x : ℕ → ℕ) (trait : ℕ → ℕ → Bool) (w c missing left : ℕ) (first first' : List ℕ) : Type 0 where
  pub size : length first' ≡ length first
  pub entry :
      (v t : ℕ) → v < max_agents → t < trait_count
      → get_or first' (v * trait_count + t) 0 ≡ cond (eqb v w && (bit missing t && ltb (first_after m x trait w c t) m)) (first_after m x trait w c t) (get_or first (v * trait_count + t) 0)
  pub not_found : SetOf trait_count left (λ t. bit missing t && not (ltb (first_after m x trait w c t) m))

-- Agent w has lost chore c, which it owned: of any rows, its own is that without c, and every other as it was.
pub record Lost (m : ℕ) (x : ℕ → ℕ) (trait : ℕ → ℕ → Bool) (w c : ℕ) (first sets first' sets' : List ℕ) : Type 0 where
  pub size : length first' ≡ length first
  pub sets_size : length sets' ≡ length sets
  pub own : owns x w c ≡ true → Row m (owns x w) trait w first sets → Row m (λ d. owns x w d && not (eqb d c)) trait w first' sets'
  pub others : (v t : ℕ) → v < max_agents → t < trait_count → (v ≡ w → ⊥) → get_or first' (v * trait_count + t) 0 ≡ get_or first (v * trait_count + t) 0
  pub other_sets : (v : ℕ) → (v ≡ w → ⊥) → get_or sets' v 0 ≡ get_or sets v 0

-- A chore has gone to agent u: it is u's in the list, and of any rows each is what it should be.
pub record HandedOn (trait : ℕ → ℕ → Bool) (chore u : ℕ) (owners first sets owners' first' sets' : List ℕ) : Type 0 where
  pub made : owners' ≡ set owners chore (u + 1)
  pub kept :
      (n : ℕ) → u < n
      → Firsts n (length owners) (owner_of owners) trait first sets → Firsts n (length owners) (owner_of owners') trait first' sets'
