-- Laws of the sweep: one chore more, and the dearest taken off.
-- Assumes nothing.
use Prim.Native.Nat.{ℕ, ◌+◌, ◌-◌, ◌^◌, ◌≤◌, ◌<◌}
use mathlib.Core.List.{List}
use mathlib.Core.Path.{◌≡◌, refl, ap₂, ◌∙◌}
use native.Mathlib.Omega.{arith}
use lib.ListN.{length, get_or, set, replicate}
use Rattle.finite.specs.Lists.{Table}
use Rattle.finite.proofs.Where.{peak_within}
use Rattle.finite.proofs.Sweeps.{sums_none, sums_next, sums_bound, tops_none, tops_raised, tops_kept}
use Rattle.model.specs.Limits.{max_agents, max_price}
use Rattle.model.specs.Instance.{owner_of, price_of}
use Rattle.model.specs.Fairness.{owns, total}
use Rattle.model.specs.Prices.{price_sum, dearest, price_up_to_one}
use Rattle.totals.specs.Totals.{Held, Added, Parts, TakenOff, Summed}

module _ {owners prices sums tops : List ℕ} where
  -- no chore has been added yet
  pub added_none : sums ≡ replicate max_agents 0 → tops ≡ replicate max_agents 0 → Added 0 owners prices sums tops
  unfolding total dearest owns
  added_none s t = record { sum = sums_none (owner_of owners) (price_of prices) s; top = tops_none (owner_of owners) (price_of prices) t }

  -- the dearest is part of the sum
  pub added_parts : {k n : ℕ} → Added k owners prices sums tops → n ≤ max_agents → Parts n sums tops
  unfolding total dearest
  added_parts {k} a few =
      record {
        agents = few;
        size = a.top.size;
        part = λ i l.
            let e : i < max_agents = omega arith in
            rw (a.sum.entry i e, a.top.entry i e) (peak_within k (owns (owner_of owners) i) (price_of prices));
      }

  pub summed : {n : ℕ} {ups : List ℕ} → Added (length owners) owners prices sums tops → n ≤ max_agents → TakenOff n sums tops ups → Summed n owners prices sums ups
  unfolding price_up_to_one
  summed a few t =
      record {
        sum = a.sum;
        size = t.size ∙ a.top.size;
        up = λ i l. let e : i < max_agents = omega arith in t.rest i l ∙ ap₂ (λ s d. s - d) (a.sum.entry i e) (a.top.entry i e);
      }

-- the owner of chore c, as the code counts
abbrev pub owner : List ℕ → ℕ → ℕ
owner owners c = get_or owners c 0 - 1

module _ {owners prices : List ℕ} (h : Held owners prices) {c : ℕ} (below : c < length owners) where
  -- it has an entry
  pub owner_room : owner owners c < max_agents
  owner_room = omega (arith, h.numbered c below, h.known c below)

  module _ {sums tops : List ℕ} (a : Added c owners prices sums tops) where
    -- 4,000 prices of 1,000,000 fit
    pub sum_fits : get_or sums (owner owners c) 0 + get_or prices c 0 < 2 ^ 32
    unfolding total owns price_of
    sum_fits =
        omega (arith, sums_bound (owner_of owners) (price_of prices) {b = max_price} a.sum (λ d l. h.bounded d (omega arith)) (owner owners c) owner_room, h.bounded c below, h.chores)

    sum_next : Table max_agents (price_sum (c + 1) (owner_of owners) (price_of prices)) (set sums (owner owners c) (get_or sums (owner owners c) 0 + get_or prices c 0))
    unfolding total owns owner_of price_of
    sum_next = sums_next (owner_of owners) (price_of prices) refl a.sum owner_room refl

    -- chore c is as dear as any of its owner's
    pub added_raised : get_or tops (owner owners c) 0 ≤ get_or prices c 0 → Added (c + 1) owners prices (set sums (owner owners c) (get_or sums (owner owners c) 0 + get_or prices c 0)) (set tops (owner owners c) (get_or prices c 0))
    unfolding dearest owns owner_of price_of
    added_raised d =
        record { sum = sum_next; top = tops_raised (owner_of owners) (price_of prices) refl a.top owner_room refl d }

    -- or is not dearer
    pub added_kept : get_or prices c 0 ≤ get_or tops (owner owners c) 0 → Added (c + 1) owners prices (set sums (owner owners c) (get_or sums (owner owners c) 0 + get_or prices c 0)) tops
    unfolding dearest owns owner_of price_of
    added_kept d = record { sum = sum_next; top = tops_kept (owner_of owners) (price_of prices) refl a.top d }
