-- Laws of places: what is left goes to agents that have some, and an agent with a place is found while there is one.
-- Assumes nothing.
use Prim.Native.Nat.{ℕ, ◌+◌, ◌*◌, ◌-◌, ◌≤◌, ◌<◌}
use mathlib.Core.List.{List}
use mathlib.Core.Path.{◌≡◌, sym, ap, ◌∙◌}
use native.Mathlib.Nat.{le_refl, mul-suc}
use native.Mathlib.Omega.{arith}
use lib.ListN.{length, get_or, set, length-set}
use lib.Seq.{get_or-set_same, get_or-set_other}
use borrow.Author.Count.{below_more}
use borrow.Author.Tests.{eq-eqb}
use Rattle.finite.specs.Sums.{sum_to, count_to}
use Rattle.finite.proofs.Tests.{by_cond}
use Rattle.finite.proofs.Below.{none_below, by_same}
use Rattle.finite.proofs.Sums.{sum_change}
use Rattle.finite.proofs.Counts.{count_point}
use Rattle.model.specs.Limits.{max_agents}
use Rattle.model.specs.Instance.{Instance, cost}
use Rattle.placing.specs.Filling.{free, free_count, Roomy, PlacedTo, AllPlaced, HasPlace}
use Rattle.placing.proofs.Filling.{fewer_free, load_more, load_same, filling_on, owned_on, owned_here}

-- no chore costs more than a difficult one
light : (U : Instance) → U.a ≡ 1 → 0 < U.b → (i c : ℕ) → cost U i c ≤ U.b
unfolding cost
light U unit heavy i c = by_cond (λ v. v ≤ U.b) (U.easy i c) U.a U.b (λ _. rw unit heavy) (λ _. le_refl U.b)

-- the rest goes to agents with places
module _ {U : Instance} (unit : U.a ≡ 1) (heavy : 0 < U.b) (fits : U.n ≤ max_agents) where
  module _ {places owners : List ℕ} where
    pub placed_none : Roomy U places owners → PlacedTo U 0 places owners places owners
    placed_none r = record { within = omega arith; roomy = r; owned = λ c l. none_below l; each = λ i l. le_refl _ }

    module _ {k : ℕ} {places' owners' : List ℕ} (p : PlacedTo U k places owners places' owners') (below : k < U.m) where
      pub placed_pass : 0 < get_or owners' k 0 → PlacedTo U (k + 1) places owners places' owners'
      placed_pass has =
          record { within = omega arith; roomy = p.roomy; owned = below_more (λ c. 0 < get_or owners' c 0) k p.owned has; each = p.each }

      module _ (none : get_or owners' k 0 ≡ 0) where
        -- a place less
        one_off : (i : ℕ) → HasPlace U.n i places' → U.b * (get_or places' i 0 - 1) + U.b ≡ U.b * get_or places' i 0
        one_off i h = sym (mul-suc U.b (get_or places' i 0 - 1)) ∙ ap (λ v. U.b * v) (omega (arith, h.place))

        pub some_place : 0 < sum_to U.n (λ i. get_or places' i 0)
        unfolding free_count free
        some_place =
            let some : 0 < count_to U.m (free owners') = count_point (free owners') k below (eq-eqb (get_or owners' k 0) 0 none) in
            omega (arith, p.roomy.room)

        pub placed_one : {i : ℕ} → HasPlace U.n i places' → PlacedTo U (k + 1) places owners (set places' i (get_or places' i 0 - 1)) (set owners' k (i + 1))
        placed_one {i} h =
            let f : ℕ → ℕ = λ k. get_or places' k 0 in
            let fewer = set places' i (f i - 1) in
            let F = p.roomy.filling in
            let slot : i < length places' = omega (arith, h.agent, p.roomy.slots, fits) in
            let here : get_or fewer i 0 ≡ f i - 1 = get_or-set_same places' i (f i - 1) 0 slot in
            let other : (l : ℕ) → (l ≡ i → ⊥) → get_or fewer l 0 ≡ f l = λ l ne. get_or-set_other places' i l (f i - 1) 0 ne in
            record {
              within = omega arith;
              roomy =
                  record {
                    slots = simp length-set p.roomy.slots;
                    filling = filling_on F h.agent below none;
                    room = omega (arith, p.roomy.room, fewer_free F h.agent below none, h.place, here, sum_change {f = λ k. get_or fewer k 0} {g = f} i h.agent (λ l _. other l));
                    few = λ l b. by_same l i (λ e. rw (e, here) (omega (arith, p.roomy.few i h.agent))) (λ ne. rw (other l ne) (p.roomy.few l b));
                  };
              owned = below_more (λ c. 0 < get_or (set owners' k (i + 1)) c 0) k (owned_on F h.agent below none k p.owned) (owned_here F h.agent below none);
              each = λ l b.
                  by_same l i
                  (λ e. rw (e, here, load_more F h.agent below none) (omega (arith, light U unit heavy i k, p.each i h.agent, one_off i h)))
                  (λ ne. rw (other l ne, load_same F h.agent below none l ne) (p.each l b));
            }

    pub placed_all : {k : ℕ} {places' owners' : List ℕ} → PlacedTo U k places owners places' owners' → k ≡ U.m → AllPlaced U places owners owners'
    placed_all p e =
        record {
          picks = record { size = p.roomy.filling.size; positive = λ c l. p.owned c (rw e l); bounded = p.roomy.filling.bounded };
          each = λ i l. omega (arith, p.each i l);
        }
