-- Document 02, request 7: "The scratch is to hold only a distance and a place in line for each person".
-- `ring t i` says that agent i, of n, is at distance t.
use Rattle.std.specs.Prelude.{ℕ, zero, suc, ◌+◌, ◌≤◌, ◌<◌, Bool, true, false, not, ◌&&◌, ◌||◌, List, [], ◌++◌, ◌≡◌, eqb, leb, ltb, length, get_or}
use Rattle.finite.specs.Search.{any_below}
use Rattle.finite.specs.Sums.{count_to}
use Rattle.finite.specs.Lists.{passing}
use Rattle.model.specs.Limits.{max_agents, scratch_size}

module _ (n : ℕ) (ring : ℕ → ℕ → Bool) where
  -- everyone at a distance below t, ring by ring, and in a ring by number: "Every remaining tie goes to the lowest number."
  unfoldable pub rings_before : ℕ → List ℕ
  rings_before zero = []
  rings_before (suc t) = rings_before t ++ passing n (ring t)

  -- the line when the search has come to agent g of ring t: everyone of the rings before it, and of ring t those before g
  unfoldable pub line_to : ℕ → ℕ → List ℕ
  line_to t g = rings_before t ++ passing g (ring t)

-- agent i stands in that line
unfoldable pub in_line : (ℕ → ℕ → Bool) → ℕ → ℕ → ℕ → Bool
in_line ring t g i = any_below t (λ s. ring s i) || (ring t i && ltb i g)

-- What the scratch, lent as `lent`, then holds: in byte i agent i's distance plus one, 0 where it does not stand in line; in byte 32 + k the
-- agent at place k of the line. Every other byte is as it was.
pub record Lined (n : ℕ) (ring : ℕ → ℕ → Bool) (t g : ℕ) (lent scratch : List ℕ) : Type 0 where
  pub distance : (i s : ℕ) → i < n → in_line ring t g i ≡ true → ring s i ≡ true → get_or scratch i 0 ≡ s + 1
  pub unreached : (i : ℕ) → i < n → in_line ring t g i ≡ false → get_or scratch i 0 ≡ 0
  pub place : (k : ℕ) → k < length (line_to n ring t g) → get_or scratch (max_agents + k) 0 ≡ get_or (line_to n ring t g) k 0
  pub spare : (b : ℕ) → n ≤ b → b < max_agents → get_or scratch b 0 ≡ get_or lent b 0
  pub rest : (b : ℕ) → max_agents + length (line_to n ring t g) ≤ b → get_or scratch b 0 ≡ get_or lent b 0

-- those of least sum are at distance 0
unfoldable pub starts : List ℕ → ℕ → ℕ → ℕ → Bool
starts sums least t i = eqb t 0 && eqb (get_or sums i 0) least

-- byte i says that agent i is reached
unfoldable pub is_reached : List ℕ → ℕ → Bool
is_reached scratch i = not (eqb (get_or scratch i 0) 0)

-- agent i stands at one of the places from `from` up to `to`
unfoldable pub stands_at : List ℕ → ℕ → ℕ → ℕ → Bool
stands_at scratch from to i = any_below to (λ k. leb from k && eqb i (get_or scratch (max_agents + k) 0))

-- the byte of the agent at place k
unfoldable pub byte_at : List ℕ → ℕ → ℕ
byte_at scratch k = get_or scratch (get_or scratch (max_agents + k) 0) 0

-- safety: as many places are taken as agents are reached, and an agent of n stands at each
pub record Filled (n : ℕ) (scratch : List ℕ) (end : ℕ) : Type 0 where
  pub size : length scratch ≡ scratch_size
  pub counted : end ≡ count_to n (is_reached scratch)
  pub known : (k : ℕ) → k < end → get_or scratch (max_agents + k) 0 < n

-- what a line starts as: those of least sum
pub record Started (n : ℕ) (sums : List ℕ) (least : ℕ) (lent scratch : List ℕ) (end : ℕ) : Type 0 where
  pub filled : Filled n scratch end
  pub lined : Lined n (starts sums least) 0 n lent scratch
  pub ended : end ≡ length (line_to n (starts sums least) 0 n)
