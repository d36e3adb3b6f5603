-- The search of 2b over its line: from the start on, one agent and one ring further, and what it has found where it ends.
-- Assumes nothing.
use Prim.Native.Nat.{ℕ, zero, suc, ◌+◌, ◌-◌, ◌≤◌, ◌<◌}
use mathlib.Core.Bool.{Bool, true, false, not, ◌&&◌, and_comm}
use mathlib.Core.List.{List}
use mathlib.Core.Path.{◌≡◌, sym, ap, ap₂, ◌∙◌}
use native.Mathlib.Nat.{le_refl}
use native.Mathlib.Omega.{arith}
use lib.Bits.{bit_and}
use lib.Dec.{eqb, ltb}
use lib.ListN.{length, get_or, set}
use borrow.Author.Tests.{lt-ltb, le-ltb, ltb-true, not-true}
use Rattle.finite.specs.Bits.{SetOf}
use Rattle.finite.specs.Search.{First}
use Rattle.finite.proofs.Tests.{by_test, bool_eq, clash, and_elim, and_intro, and_no_left, and_no_right, not_on, not_yes}
use Rattle.finite.proofs.Below.{by_top, by_less, by_same}
use Rattle.finite.proofs.Search.{any_intro, any_elim, any_none_intro, first_unique}
use Rattle.finite.proofs.Distances.{reach_distance}
use Rattle.finite.proofs.Bits.{set_within, set_cong, set_some}
use Rattle.model.specs.Limits.{max_agents, scratch_size}
use Rattle.model.specs.Instance.{Instance}
use Rattle.model.specs.Prices.{price_up_to_one}
use Rattle.model.specs.Step2b.{least_sum, above, supplies, of_least_sum, within, reachable, at_distance, ring2b, due2b, giver2b}
use Rattle.algorithm.proofs.UpToOne.{up_le}
use Rattle.algorithm.proofs.Rings.{of_least, within_zero, within_more, at_within, in_ring_lem, distance_said, due_found, is_due}
use Rattle.rings.specs.Line.{rings_before, line_to, in_line, Lined, is_reached, stands_at, Started}
use Rattle.rings.specs.Search.{Searching, Searched}
use Rattle.rings.proofs.InLine.{in_before, in_here, in_cases, line_next, line_zero, line_skip, lined_all, lined_skip, lined_next, longer, lined_take, ring_stands, ring_empty}
use Rattle.rings.proofs.Started.{unreached_by, reached_by, started_ended, started_lined}

-- agent i is not reached and has an offer for somebody of the ring
unfoldable pub in_next_ring : List ℕ → ℕ → List ℕ → ℕ → Bool
in_next_ring offers ring scratch i = not (is_reached scratch i) && not (eqb (bit_and (get_or offers i 0) ring) 0)

-- The search has come to agent g of ring t, and nobody in line is above the least sum.
pub record Ringed (I : Instance) (x p : ℕ → ℕ) (t g end : ℕ) (lent scratch : List ℕ) : Type 0 where
  pub lined : Lined I.n (at_distance I x p) t g lent scratch
  pub ended : end ≡ length (line_to I.n (at_distance I x p) t g)
  pub calm : (i : ℕ) → i < I.n → in_line (at_distance I x p) t g i ≡ true → above I x p i ≡ false

module _ (I : Instance) (x p : ℕ → ℕ) (some : 0 < I.n) where
  at_apart : (s t i : ℕ) → s < t → at_distance I x p s i ≡ true → at_distance I x p t i ≡ true → ⊥
  at_apart s zero i l a b = omega arith
  at_apart s (suc t) i l a b =
      clash (within_more I x p some (omega arith) i (at_within I x p s i a)) ((distance_said I x p t i).0 b).0

  -- an agent has one distance
  pub at_once : (s t i : ℕ) → at_distance I x p s i ≡ true → at_distance I x p t i ≡ true → s ≡ t
  at_once s t i a b =
      by_less s t (λ l. absurd (at_apart s t i l a b))
      (λ l. by_same s t (λ e. e) (λ e. let h : t < s = omega arith in absurd (at_apart t s i h b a)))

  -- which is below n
  at_below : (t i : ℕ) → i < I.n → at_distance I x p t i ≡ true → t < I.n
  unfolding within
  at_below t i l a =
      reach_distance I.n (of_least_sum I x p) (supplies I x p) t i l (at_within I x p t i a)
      (λ s h. not_yes (within I x p s i) (λ b. let r = in_ring_lem I x p s i b in at_apart r.ring t i (omega (arith, r.at_most)) r.held a))

  -- whoever is within distance t stands in line when ring t + 1 begins
  pub in_within : (t g i : ℕ) → i < I.n → g ≤ i → in_line (at_distance I x p) (suc t) g i ≡ within I x p t i
  in_within t g i l h =
      bool_eq
      (λ a. in_cases (at_distance I x p) (suc t) g i a (λ s b e. within_more I x p some (omega arith) i (at_within I x p s i e)) (λ e b. absurd (omega arith)))
      (λ a. let r = in_ring_lem I x p t i a in in_before (at_distance I x p) (suc t) g i r.ring (omega (arith, r.at_most)) r.held)

  -- and its byte says so
  pub reached_line : (t g : ℕ) {lent scratch : List ℕ} → Lined I.n (at_distance I x p) t g lent scratch → (i : ℕ) → i < I.n → is_reached scratch i ≡ in_line (at_distance I x p) t g i
  reached_line t g {scratch = scratch} L i l =
      by_test (in_line (at_distance I x p) t g i)
      (λ a. in_cases (at_distance I x p) t g i a
      (λ s b e. reached_by scratch i (s + 1) (L.distance i s l a e) (omega arith) ∙ sym a)
      (λ e b. reached_by scratch i (t + 1) (L.distance i t l a e) (omega arith) ∙ sym a))
      (λ a. unreached_by scratch i (L.unreached i l a) ∙ sym a)

  -- in the line of all rings stands everyone reachable
  pub line_reachable : (i : ℕ) → i < I.n → in_line (at_distance I x p) I.n 0 i ≡ reachable I x p i
  unfolding reachable
  line_reachable i l =
      bool_eq
      (λ a. in_cases (at_distance I x p) I.n 0 i a (λ s b e. within_more I x p some (omega arith) i (at_within I x p s i e)) (λ e b. absurd (omega arith)))
      (λ a. let r = in_ring_lem I x p I.n i a in in_before (at_distance I x p) I.n 0 i r.ring (at_below r.ring i l r.held) r.held)

  -- behind an empty ring all are empty
  rings_empty : (t : ℕ) → ((i : ℕ) → i < I.n → at_distance I x p t i ≡ false) → (s i : ℕ) → t ≤ s → i < I.n → at_distance I x p s i ≡ false
  rings_empty t none zero i l h = let e : t ≡ 0 = omega arith in rw (← e) (none i h)
  rings_empty t none (suc s) i l h =
      by_less s t
      (λ b. let e : t ≡ suc s = omega arith in rw (← e) (none i h))
      (λ b. not_yes (at_distance I x p (suc s) i) (λ a. let v = ((distance_said I x p s i).0 a).1 in clash v.there (rings_empty t none s v.agent b v.below)))

module _ {I : Instance} {x p : ℕ → ℕ} {offers sums ups : List ℕ} {least : ℕ} (S : Searching I x p offers sums ups least) where
  -- those of least sum are ring 0
  start_at : (i : ℕ) → i < I.n → eqb (get_or sums i 0) least ≡ at_distance I x p 0 i
  unfolding at_distance of_least_sum
  start_at i l = ap₂ eqb (S.sum i l) S.least_is ∙ sym (within_zero I x p i)

  pub ringed_start : {lent scratch : List ℕ} {end : ℕ} → Started I.n sums least lent scratch end → Ringed I x p 0 I.n end lent scratch
  unfolding at_distance above
  ringed_start T =
      record {
        lined = started_lined I.n sums least (at_distance I x p) start_at T (λ s i. at_once I x p S.some s 0 i);
        ended = started_ended I.n sums least (at_distance I x p) start_at T;
        calm =
            λ i l a. in_cases (at_distance I x p) 0 I.n i a (λ s b. absurd (omega arith))
            (λ e b.
            let sum = of_least I x p i (sym (within_zero I x p i) ∙ e) in
            le-ltb (least_sum I x p) (price_up_to_one I.m x p i) (omega (arith, up_le I.m x p i)));
      }

  -- the next ring begins
  pub ringed_next : {t end : ℕ} {lent scratch : List ℕ} → Ringed I x p t I.n end lent scratch → Ringed I x p (suc t) 0 end lent scratch
  ringed_next {t} R =
      record {
        lined = lined_next R.lined;
        ended = R.ended ∙ ap length (line_next I.n (at_distance I x p) t ∙ sym (line_zero I.n (at_distance I x p) (suc t)));
        calm =
            λ i l a. R.calm i l (in_cases (at_distance I x p) (suc t) 0 i a
            (λ s h e. by_top h (λ q. in_here (at_distance I x p) t I.n i (rw q at e) l) (λ b. in_before (at_distance I x p) t I.n i s b e))
            (λ e h. absurd (omega arith)));
      }

  -- the test of the code
  above_at : (i : ℕ) → i < I.n → ltb least (get_or ups i 0) ≡ above I x p i
  unfolding above
  above_at i l = rw (S.least_is, S.up i l)

  module _ {t end : ℕ} {lent scratch : List ℕ} {i ring : ℕ} (l : i < I.n) (R : Ringed I x p (suc t) i end lent scratch) (here : SetOf I.n ring (at_distance I x p t)) where
    -- those of the ring for whom agent i has an offer
    pub taken_at : SetOf I.n (bit_and (get_or offers i 0) ring) (λ j. supplies I x p i j && at_distance I x p t j)
    taken_at = set_within (get_or offers i 0) (λ j h. S.offered i j l h) here

    -- whoever is not reached and has an offer for the ring is in the next one
    next_at : in_next_ring offers ring scratch i ≡ at_distance I x p (suc t) i
    unfolding in_next_ring
    next_at =
        let offer = set_some taken_at in
        let near = reached_line I x p S.some (suc t) i R.lined i l ∙ in_within I x p S.some t i i l (le_refl i) in
        bool_eq
        (λ e.
        let both = and_elim (not (is_reached scratch i)) _ e in
        let far = sym near ∙ not-true (is_reached scratch i) both.0 in
        let v = any_elim I.n _ (offer ∙ both.1) in
        let two = and_elim (supplies I x p i v.index) _ v.passes in
        (distance_said I x p t i).1 (far, record { agent = v.index; below = v.below; there = two.1; supplied = two.0 }))
        (λ e.
        let (far, v) = (distance_said I x p t i).0 e in
        and_intro (not_on (near ∙ far)) (sym offer ∙ any_intro _ v.agent v.below (and_intro v.supplied v.there)))

    -- agent i is passed over
    pub ringed_skip : in_next_ring offers ring scratch i ≡ false → Ringed I x p (suc t) (suc i) end lent scratch
    ringed_skip e =
        let none = sym next_at ∙ e in
        record {
          lined = lined_skip none R.lined;
          ended = R.ended ∙ ap length (line_skip I.n (at_distance I x p) (suc t) i none);
          calm =
              λ j h a. R.calm j h (in_cases (at_distance I x p) (suc t) (suc i) j a (in_before (at_distance I x p) (suc t) i j)
              (λ b q. by_top q (λ r. absurd (clash b (ap (at_distance I x p (suc t)) r ∙ none))) (in_here (at_distance I x p) (suc t) i j b)));
        }

    -- agent i takes the next place
    module _ (few : I.n ≤ max_agents) (sized : length scratch ≡ scratch_size) (room : end < max_agents) (e : in_next_ring offers ring scratch i ≡ true) where
      now_here : at_distance I x p (suc t) i ≡ true
      now_here = sym next_at ∙ e

      line_on : Lined I.n (at_distance I x p) (suc t) (suc i) lent (set (set scratch i (suc t + 1)) (max_agents + end) i)
      line_on = lined_take I.n (at_distance I x p) now_here R.ended (λ s j. at_once I x p S.some s (suc t) j) sized few l room R.lined

      pub ringed_take : get_or ups i 0 ≤ least → Ringed I x p (suc t) (suc i) (end + 1) lent (set (set scratch i (suc t + 1)) (max_agents + end) i)
      ringed_take low =
          record {
            lined = line_on;
            ended = longer I.n (at_distance I x p) now_here R.ended;
            calm =
                λ j h a. in_cases (at_distance I x p) (suc t) (suc i) j a (λ s b q. R.calm j h (in_before (at_distance I x p) (suc t) i j s b q))
                (λ b q. by_top q
                (λ r. rw r (sym (above_at i l) ∙ le-ltb least (get_or ups i 0) low))
                (λ r. R.calm j h (in_here (at_distance I x p) (suc t) i j b r)));
          }

      -- and is the giver
      module _ (below : t < I.n) (high : least < get_or ups i 0) where
        found_above : above I x p i ≡ true
        found_above = sym (above_at i l) ∙ lt-ltb least (get_or ups i 0) high

        found_first : First I.n (λ j. at_distance I x p (suc t) j && above I x p j) i
        found_first =
            record {
              below = l;
              passes = and_intro now_here found_above;
              before = λ j h. by_test (at_distance I x p (suc t) j)
                  (λ a. and_no_right (at_distance I x p (suc t) j) (R.calm j (omega arith) (in_here (at_distance I x p) (suc t) i j a h)))
                  (and_no_left (above I x p j));
            }

        found_ring : ring2b I x p ≡ suc t
        unfolding ring2b
        found_ring =
            first_unique (record {
              below = omega arith;
              passes = any_intro _ i l found_first.passes;
              before = λ s h. any_none_intro I.n _ (λ j b. by_test (at_distance I x p s j)
                  (λ a. and_no_right (at_distance I x p s j) (R.calm j b (in_before (at_distance I x p) (suc t) i j s h a)))
                  (and_no_left (above I x p j)));
            })

        found_giver : giver2b I x p ≡ i
        unfolding giver2b
        found_giver = rw found_ring (first_unique found_first)

        pub ringed_found : Searched I x p i (bit_and (get_or offers i 0) ring) lent (set (set scratch i (suc t + 1)) (max_agents + end) i)
        unfolding above
        ringed_found =
            record {
              limit = omega arith;
              due = λ h. is_due I x p S.some (suc t) i below l (at_within I x p (suc t) i now_here) (ltb-true _ _ found_above);
              gives = λ h. sym found_giver;
              takes = λ h. let e : ring2b I x p - 1 ≡ t = omega (arith, found_ring) in rw (e, found_giver) (set_cong (λ j h. and_comm (supplies I x p i j) (at_distance I x p t j)) taken_at);
              up_to_giver = λ h. rw (found_ring, found_giver) line_on;
              none = λ q. absurd (omega arith);
              all = λ q. absurd (omega arith);
            }

  module _ {t from to : ℕ} {lent scratch : List ℕ} (R : Ringed I x p t I.n to lent scratch) (begun : from ≡ length (rings_before I.n (at_distance I x p) t)) where
    -- the places since the rings before are the ring
    pub ringed_ring : {ring : ℕ} → SetOf I.n ring (stands_at scratch from to) → SetOf I.n ring (at_distance I x p t)
    ringed_ring = set_cong (ring_stands R.lined begun R.ended)

    -- there are none: nobody further is reachable
    module _ (empty : from ≡ to) (low : t ≤ I.n) where
      none_on : (s i : ℕ) → t ≤ s → i < I.n → at_distance I x p s i ≡ false
      none_on = rings_empty I x p S.some t (ring_empty R.lined begun R.ended empty)

      calm_all : (i : ℕ) → i < I.n → reachable I x p i ≡ true → above I x p i ≡ false
      unfolding reachable
      calm_all i l a =
          let r = in_ring_lem I x p I.n i a in
          by_less r.ring t
          (λ h. R.calm i l (in_before (at_distance I x p) t I.n i r.ring h r.held))
          (λ h. absurd (clash r.held (none_on r.ring i h l)))

      none_due : due2b I x p ≡ false
      unfolding reachable above
      none_due =
          not_yes (due2b I x p) λ e.
          let d = due_found I x p S.some e in
          clash (lt-ltb _ _ d.giver_above) (calm_all (giver2b I x p) d.giver (within_more I x p S.some d.distance _ d.in_ring))

      pub ringed_ended : {giver : ℕ} → giver ≡ I.n → Searched I x p giver 0 lent scratch
      ringed_ended e =
          record {
            limit = omega arith;
            due = λ h. absurd (omega arith);
            gives = λ h. absurd (omega arith);
            takes = λ h. absurd (omega arith);
            up_to_giver = λ h. absurd (omega arith);
            none = λ q. none_due;
            all = λ q. lined_all I.n (at_distance I x p) t none_on I.n I.n (le_refl _) low R.lined;
          }
