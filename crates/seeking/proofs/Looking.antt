-- What a look at a state goes by: price sums, the dearest, and the sets of its table, from which the search of 2b starts.
-- Assumes nothing.
use Prim.Native.Nat.{ℕ, ◌≤◌, ◌<◌}
use mathlib.Core.Bool.{◌&&◌}
use mathlib.Core.List.{List}
use mathlib.Core.Logic.{◌⊎◌}
use mathlib.Core.Path.{◌≡◌, sym, ap, ◌∙◌}
use native.Mathlib.Nat.{le_of_lt}
use native.Mathlib.Omega.{arith}
use lib.Dec.{eqb}
use lib.ListN.{length, get_or}
use Rattle.finite.specs.Bits.{bit}
use Rattle.finite.specs.Lists.{Table}
use Rattle.finite.specs.Sums.{min_to}
use Rattle.finite.proofs.Search.{any_cong}
use Rattle.model.specs.Limits.{max_agents}
use Rattle.model.specs.Instance.{owner_of, price_of}
use Rattle.model.specs.Sheet.{agents_of, chores_of, as_read}
use Rattle.model.specs.Fairness.{owns}
use Rattle.model.specs.Prices.{price_sum}
use Rattle.model.specs.Step2b.{supplies}
use Rattle.algorithm.proofs.Best.{squares, three_prices}
use Rattle.algorithm.proofs.Reading.{read_sound}
use Rattle.totals.specs.Totals.{Summed}
use Rattle.firsts.specs.Traits.{top_trait, mid_trait, has_trait}
use Rattle.firsts.specs.Dearest.{Weighing, Weighed}
use Rattle.firsts.proofs.DearestIn.{top_trait_lem, mid_trait_lem, weighing, weighed_up}
use Rattle.rings.specs.Search.{Searching, Searched, Answered}
use Rattle.seeking.specs.Looks.{Looking}
use Rattle.seeking.proofs.Wanting.{wanted_trait}
use Rattle.seeking.proofs.Ready.{sum_is, up_is, least_is_lem}

module _ {s owners prices groups sets : List ℕ} {free grouped low mid top : ℕ} (L : Looking s owners prices groups sets free grouped low mid top) where
  few : agents_of s ≤ max_agents
  few = L.ready.valid.agents_fit

  -- the three prices, in their order
  three : (c : ℕ) → c < chores_of s → (price_of prices c ≡ low) ⊎ ((price_of prices c ≡ mid) ⊎ (price_of prices c ≡ top))
  unfolding as_read
  three c h = rw (L.views.low_is, L.views.mid_is, L.views.top_is) (three_prices L.ready.core c h)

  low_mid : low ≤ mid
  unfolding as_read
  low_mid = rw (L.views.low_is, L.views.mid_is) (le_of_lt (squares (read_sound L.ready.valid)).1)

  mid_top : mid ≤ top
  unfolding as_read
  mid_top = rw (L.views.mid_is, L.views.top_is) (le_of_lt (squares (read_sound L.ready.valid)).2)

  module _ {sums : List ℕ} (T : Table max_agents (price_sum (length owners) (owner_of owners) (price_of prices)) sums) where
    sums_at : Table max_agents (price_sum (chores_of s) (owner_of owners) (price_of prices)) sums
    sums_at = rw (← L.ready.owners_sized) T

    is_top : (c : ℕ) → c < chores_of s → has_trait prices L.entitled L.likes free grouped mid top top_trait c ≡ eqb (price_of prices c) top
    is_top c h = top_trait_lem prices L.entitled L.likes free grouped mid top c

    is_mid : (c : ℕ) → c < chores_of s → has_trait prices L.entitled L.likes free grouped mid top mid_trait c ≡ eqb (price_of prices c) mid
    is_mid c h = mid_trait_lem prices L.entitled L.likes free grouped mid top c

    -- what is asked for the price up to one, and what it comes to
    pub weighable : {n : ℕ} {ups : List ℕ} → n ≡ agents_of s → length ups ≡ max_agents → Weighing n sums sets ups low mid top
    weighable e size = rw e (weighing few L.rows is_top is_mid three low_mid mid_top sums_at size)

    pub summed : {n : ℕ} {ups : List ℕ} → n ≡ agents_of s → Weighed n sums sets ups low mid top → Summed (agents_of s) owners prices sums ups
    summed e d =
        record {
          sum = T;
          size = d.size;
          up = rw L.ready.owners_sized (weighed_up few L.rows is_top is_mid three low_mid mid_top sums_at (rw e at d));
        }

  -- an agent's offer is the set of those whom it supplies
  offered : (i j : ℕ) → i < agents_of s → j < agents_of s → bit (get_or sets i 0) j ≡ supplies (as_read s) (owner_of owners) (price_of prices) i j
  unfolding as_read supplies
  offered i j h l =
      (L.rows.row i h).some.member j (omega (arith, few))
      ∙ any_cong (chores_of s) (λ c k. ap (λ b. owns (owner_of owners) i c && b) (wanted_trait L.ready L.views.sides mid top j c l k))

  -- so what the search answers is said of the state
  module _ {n : ℕ} {sums ups : List ℕ} {least : ℕ} (agents : n ≡ agents_of s) (T : Summed (agents_of s) owners prices sums ups) (is : least ≡ min_to n (λ i. get_or sums i 0)) where
    searching : Searching (as_read s) (owner_of owners) (price_of prices) sets sums ups least
    unfolding as_read
    searching =
        record {
          some = L.ready.valid.some_agent;
          offered = offered;
          sum = sum_is L.ready T;
          up = up_is L.ready T;
          least_is = least_is_lem L.ready T agents is;
        }

    pub searched : {giver takers : ℕ} {lent scratch : List ℕ} → Answered n sets sums ups least giver takers lent scratch → Searched (as_read s) (owner_of owners) (price_of prices) giver takers lent scratch
    unfolding as_read
    searched A = A.searched _ _ _ (sym agents) searching
