-- Laws of the lanes: one chore more in its lane is added to its owner's sum.
-- Assumes nothing.
use Prim.Native.Nat.{ℕ, ◌+◌, ◌*◌, ◌^◌, ◌≤◌, ◌<◌}
use mathlib.Core.List.{List}
use mathlib.Core.Path.{◌≡◌, sym, ap, ◌∙◌}
use native.Mathlib.Nat.{le_trans}
use native.Mathlib.Omega.{arith}
use lib.Dec.{eqb}
use lib.ListN.{length, get_or, set, replicate, length-set, length-replicate, get_or-replicate}
use lib.Seq.{get_or-set_same, get_or-set_other}
use borrow.Author.Tests.{ne_eqb}
use Rattle.finite.specs.Lists.{Table}
use Rattle.finite.proofs.Tests.{eqb_same}
use Rattle.finite.proofs.Below.{by_same}
use Rattle.finite.proofs.Sums.{sum_cong, sum_none, sum_change, sum_point, sum_at_most}
use Rattle.finite.proofs.Where.{where_zero, where_hit, where_miss, where_le_sum}
use Rattle.model.specs.Limits.{max_agents, max_price}
use Rattle.model.specs.Instance.{owner_of, price_of}
use Rattle.model.specs.Fairness.{owns, total}
use Rattle.model.specs.Prices.{price_sum}
use Rattle.totals.specs.Totals.{Held}
use Rattle.totals.specs.Lanes.{lane_count, lanes_size, lane_sum, Laned}
use Rattle.totals.proofs.Summing.{owner, owner_room}

-- the place of chore c's owner in lane q
abbrev place : List ℕ → ℕ → ℕ → ℕ
place owners c q = max_agents * q + owner owners c

module _ {owners prices : List ℕ} where
  -- no chore has been added yet
  pub laned_none : {lanes : List ℕ} → lanes ≡ replicate lanes_size 0 → Laned 0 owners prices lanes
  unfolding lane_sum total
  laned_none {lanes} e =
      record {
        size = ap length e ∙ length-replicate {A = ℕ} lanes_size 0;
        sum = λ i l.
            sum_none lane_count (λ q h. ap (λ xs. get_or xs (max_agents * q + i) 0) e ∙ get_or-replicate lanes_size (max_agents * q + i) 0 0 (omega arith))
            ∙ sym (where_zero (owns (owner_of owners) i) (price_of prices));
      }

  -- all have been
  pub laned_all : {lanes sums : List ℕ} → Laned (length owners) owners prices lanes → Table max_agents (lane_sum lanes) sums → Table max_agents (price_sum (length owners) (owner_of owners) (price_of prices)) sums
  laned_all d t = record { size = t.size; entry = λ i l. t.entry i l ∙ d.sum i l }

module _ {owners prices : List ℕ} (h : Held owners prices) where
  -- 4,000 prices of 1,000,000 fit
  pub laned_bound : {c : ℕ} {lanes : List ℕ} → c ≤ length owners → Laned c owners prices lanes → (i : ℕ) → i < max_agents → lane_sum lanes i ≤ c * max_price
  unfolding total price_of
  laned_bound {c} few d i l =
      rw (d.sum i l) (le_trans (where_le_sum c (owns (owner_of owners) i) (price_of prices)) (sum_at_most c max_price (λ e m. h.bounded e (omega arith))))

  pub laned_fits : {c : ℕ} {lanes : List ℕ} → c ≤ length owners → Laned c owners prices lanes → (i : ℕ) → i < max_agents → lane_sum lanes i < 2 ^ 32
  laned_fits few d i l = omega (arith, laned_bound few d i l, h.chores)

  module _ {c : ℕ} (below : c < length owners) where
    -- the owner has an entry
    room : owner owners c < max_agents
    room = owner_room h below

    module _ {lanes : List ℕ} {q : ℕ} (d : Laned c owners prices lanes) (lane : q < lane_count) where
      -- in each lane
      pub lane_room : place owners c q < lanes_size
      lane_room = omega (arith, room)

      -- a lane is at most the sum of them
      pub lane_fits : get_or lanes (place owners c q) 0 + get_or prices c 0 < 2 ^ 32
      unfolding lane_sum
      lane_fits =
          omega (arith, sum_point (λ r. get_or lanes (place owners c r) 0) q lane, laned_bound (omega arith) d (owner owners c) room, h.bounded c below, h.chores)

      -- the price added in lane q of the owner
      abbrev more : List ℕ
      more = set lanes (place owners c q) (get_or lanes (place owners c q) 0 + get_or prices c 0)

      -- it is added to the owner's sum
      sum_here : lane_sum more (owner owners c) ≡ lane_sum lanes (owner owners c) + get_or prices c 0
      unfolding lane_sum
      sum_here =
          let new : ℕ → ℕ = λ r. get_or more (place owners c r) 0 in
          let old : ℕ → ℕ = λ r. get_or lanes (place owners c r) 0 in
          let others : (r : ℕ) → r < lane_count → (r ≡ q → ⊥) → new r ≡ old r = λ r m ne. get_or-set_other lanes (place owners c q) (place owners c r) _ 0 (λ same. ne (omega arith)) in
          omega
          (arith, sum_change {n = lane_count} {f = new} {g = old} q lane others, get_or-set_same lanes (place owners c q) (old q + get_or prices c 0) 0 (omega (arith, lane_room, d.size)))

      -- and to no other
      sum_there : (i : ℕ) → i < max_agents → (i ≡ owner owners c → ⊥) → lane_sum more i ≡ lane_sum lanes i
      unfolding lane_sum
      sum_there i l ne =
          sum_cong lane_count (λ r m. get_or-set_other lanes (place owners c q) (max_agents * r + i) _ 0 (λ same. ne (omega (arith, room))))

      pub laned_next : Laned (c + 1) owners prices more
      unfolding total owns owner_of price_of
      laned_next =
          record {
            size = length-set lanes (place owners c q) (get_or lanes (place owners c q) 0 + get_or prices c 0) ∙ d.size;
            sum = λ i l.
                by_same i (owner owners c)
                (λ e. rw e (sum_here ∙ ap (λ s. s + get_or prices c 0) (d.sum (owner owners c) room) ∙ sym (where_hit c (λ k. eqb (owner owners k) (owner owners c)) (λ k. get_or prices k 0) (eqb_same (owner owners c)))))
                (λ ne. sum_there i l ne ∙ d.sum i l ∙ sym (where_miss c (λ k. eqb (owner owners k) i) (λ k. get_or prices k 0) (ne_eqb (owner owners c) i (λ e. ne (sym e)))));
          }
