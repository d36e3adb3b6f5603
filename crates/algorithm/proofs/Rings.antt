-- The search of step 2b: that it never lacks its chore, and what a due move does to the least sum and to the rings.
-- Assumes nothing.
use Prim.Native.Nat.{ℕ, zero, suc, ◌-◌, ◌≤◌, ◌<◌}
use native.Mathlib.Nat.{le_refl, le_step}
use native.Mathlib.Omega.{arith}
use mathlib.Core.Bool.{Bool, true, false, not, ◌&&◌}
use mathlib.Core.Logic.{◌↔◌}
use mathlib.Core.Path.{◌≡◌, sym, ap, subst, ◌∙◌}
use borrow.Author.Tests.{ltb-true, ltb-false, lt-ltb, eqb-true, eq-eqb, not-true}
use Rattle.finite.specs.Search.{any_below, first_below, First}
use Rattle.finite.specs.Moves.{Moves}
use Rattle.finite.proofs.Tests.{by_test, clash, and_elim, and_intro, and_rest, fails_of, not_yes, not_on}
use Rattle.finite.proofs.Below.{by_less, by_same}
use Rattle.finite.proofs.Search.{any_intro, any_elim, any_none, found, first_some}
use Rattle.finite.proofs.Extremes.{Low, low_attained}
use Rattle.finite.proofs.Reach.{reach_zero, reach_kept, reach_step, reach_cases, reach_mono, reach_early, reach_link}
use Rattle.model.specs.Instance.{Instance}
use Rattle.model.specs.Fairness.{owns}
use Rattle.model.specs.Prices.{best, price_sum, price_up_to_one}
use Rattle.model.specs.Step2b.{least_sum, above, supplies, of_least_sum, within, reachable, at_distance, ring2b, due2b, giver2b, receiver2b, chore2b}
use Rattle.model.specs.Record.{Hands}
use Rattle.algorithm.specs.Due.{Due}
use Rattle.algorithm.proofs.UpToOne.{up_le, give_leaves, take-sum, other_sum}

-- a chore of agent i that is best for agent j
pub record Supply (I : Instance) (x p : ℕ → ℕ) (i j : ℕ) : Type 0 where
  pub chore : ℕ
  pub below : chore < I.m
  pub owned : x chore ≡ i
  pub wanted : best I p j chore ≡ true

-- an agent whom agent i supplies, and who passes `near`
pub record Nearer (I : Instance) (x p : ℕ → ℕ) (near : ℕ → Bool) (i : ℕ) : Type 0 where
  pub agent : ℕ
  pub below : agent < I.n
  pub there : near agent ≡ true
  pub supplied : supplies I x p i agent ≡ true

-- a ring, at t or before, that holds agent i
pub record Ring (I : Instance) (x p : ℕ → ℕ) (t i : ℕ) : Type 0 where
  pub ring : ℕ
  pub at_most : ring ≤ t
  pub held : at_distance I x p ring i ≡ true

-- agent i is in ring t, and above the least sum
abbrev giver_at : Instance → (ℕ → ℕ) → (ℕ → ℕ) → ℕ → ℕ → Bool
giver_at I x p t i = at_distance I x p t i && above I x p i

-- ring t holds somebody above the least sum
abbrev ring_has : Instance → (ℕ → ℕ) → (ℕ → ℕ) → ℕ → Bool
ring_has I x p t = any_below I.n (giver_at I x p t)

-- a search among numbers of which some pass finds the first
any_found : (n : ℕ) (t : ℕ → Bool) → any_below n t ≡ true → First n t (first_below n t)
any_found n t e = let h = any_elim n t e in found n t (first_some t h.index h.below h.passes)

module _ (I : Instance) (x p : ℕ → ℕ) where
  supplies_intro : (i j c : ℕ) → c < I.m → x c ≡ i → best I p j c ≡ true → supplies I x p i j ≡ true
  unfolding supplies owns
  supplies_intro i j c h o b = any_intro (λ c. owns x i c && best I p j c) c h (and_intro (eq-eqb (x c) i o) b)

  pub supplies_elim : (i j : ℕ) → supplies I x p i j ≡ true → Supply I x p i j
  unfolding supplies owns
  supplies_elim i j e =
      let h = any_elim I.m (λ c. owns x i c && best I p j c) e in
      let both = and_elim (owns x i h.index) (best I p j h.index) h.passes in
      record { chore = h.index; below = h.below; owned = eqb-true (x h.index) i both.0; wanted = both.1 }

  pub of_least : (i : ℕ) → of_least_sum I x p i ≡ true → price_sum I.m x p i ≡ least_sum I x p
  unfolding of_least_sum
  of_least i e = eqb-true (price_sum I.m x p i) (least_sum I x p) e

  pub least_of_lem : (i : ℕ) → price_sum I.m x p i ≡ least_sum I x p → of_least_sum I x p i ≡ true
  unfolding of_least_sum
  least_of_lem i e = eq-eqb (price_sum I.m x p i) (least_sum I x p) e

  pub is_above : (i : ℕ) → above I x p i ≡ true → least_sum I x p < price_up_to_one I.m x p i
  unfolding above
  is_above i e = ltb-true (least_sum I x p) (price_up_to_one I.m x p i) e

  pub not-above : (i : ℕ) → above I x p i ≡ false → price_up_to_one I.m x p i ≤ least_sum I x p
  unfolding above
  not-above i e = ltb-false (least_sum I x p) (price_up_to_one I.m x p i) e

  pub above_is : (i : ℕ) → least_sum I x p < price_up_to_one I.m x p i → above I x p i ≡ true
  unfolding above
  above_is i l = lt-ltb (least_sum I x p) (price_up_to_one I.m x p i) l

  -- rings

  pub within_zero : (i : ℕ) → within I x p 0 i ≡ of_least_sum I x p i
  unfolding within
  within_zero i = reach_zero I.n (of_least_sum I x p) (supplies I x p) i

  pub within_kept : (t i : ℕ) → within I x p t i ≡ true → within I x p (suc t) i ≡ true
  unfolding within
  within_kept t i h = reach_kept I.n (of_least_sum I x p) (supplies I x p) t i h

  within_step : (t i j : ℕ) → j < I.n → within I x p t j ≡ true → supplies I x p i j ≡ true → within I x p (suc t) i ≡ true
  unfolding within
  within_step t i j h r s = reach_step I.n (of_least_sum I x p) (supplies I x p) t i j h r s

  pub within_cases {ℓ} : {A : Type ℓ} (t i : ℕ) → within I x p (suc t) i ≡ true → (within I x p t i ≡ true → A) → (Nearer I x p (within I x p t) i → A) → A
  unfolding within
  within_cases t i h old new =
      reach_cases I.n (of_least_sum I x p) (supplies I x p) t i h old
      (λ v. new (record { agent = v.next; below = v.below; there = v.reached; supplied = v.linked }))

  pub at_within : (t i : ℕ) → at_distance I x p t i ≡ true → within I x p t i ≡ true
  unfolding at_distance
  at_within zero i h = h
  at_within (suc t) i h = (and_elim (within I x p (suc t) i) (not (within I x p t i)) h).0

  -- whoever is within t is in a ring at t or before
  pub in_ring_lem : (t i : ℕ) → within I x p t i ≡ true → Ring I x p t i
  unfolding at_distance
  in_ring_lem zero i h = record { ring = 0; at_most = le_refl 0; held = h }
  in_ring_lem (suc t) i h =
      by_test (within I x p t i)
      (λ e. let r = in_ring_lem t i e in record { ring = r.ring; at_most = le_step r.at_most; held = r.held })
      (λ e. record { ring = suc t; at_most = le_refl (suc t); held = and_intro h (not_on e) })

  -- whoever supplies somebody within t, and is not within t, supplies somebody in ring t itself
  pub at_exactly : (t i j : ℕ) → j < I.n → within I x p t j ≡ true → supplies I x p i j ≡ true → within I x p t i ≡ false → at_distance I x p t j ≡ true
  unfolding at_distance
  at_exactly zero i j hj r s far = r
  at_exactly (suc t) i j hj r s far =
      and_intro r (not_on (fails_of (λ e. within_step t i j hj e s) far))

  at_before : (t i : ℕ) → within I x p (suc t) i ≡ true → within I x p t i ≡ false → Nearer I x p (at_distance I x p t) i
  at_before t i h far =
      within_cases t i h (λ e. absurd (clash e far))
      (λ v. record { agent = v.agent; below = v.below; there = at_exactly t i v.agent v.below v.there v.supplied far; supplied = v.supplied })

  -- "whoever owns a best reel of somebody at distance t, and has no smaller distance, is at t+1"
  pub distance_said : (t i : ℕ) → (at_distance I x p (suc t) i ≡ true) ↔ ((within I x p t i ≡ false) × Nearer I x p (at_distance I x p t) i)
  unfolding at_distance
  distance_said t i = (only, made)
    where
      only : at_distance I x p (suc t) i ≡ true → (within I x p t i ≡ false) × Nearer I x p (at_distance I x p t) i
      only h =
          let both = and_elim (within I x p (suc t) i) (not (within I x p t i)) h in
          let far = not-true (within I x p t i) both.1 in
          (far, at_before t i both.0 far)

      made : (within I x p t i ≡ false) × Nearer I x p (at_distance I x p t) i → at_distance I x p (suc t) i ≡ true
      made (far, v) =
          and_intro (within_step t i v.agent v.below (at_within t v.agent v.there) v.supplied) (not_on far)

module _ (I : Instance) (x p : ℕ → ℕ) (some : 0 < I.n) where
  pub least_low : Low I.n (price_sum I.m x p) (least_sum I x p)
  unfolding least_sum
  least_low = low_attained (price_sum I.m x p) some

  -- nobody of least sum is above it
  start_fails : (i : ℕ) → giver_at I x p 0 i ≡ false
  unfolding at_distance
  start_fails i =
      not_yes _ λ e.
      let both = and_elim (within I x p 0 i) (above I x p i) e in
      let l : price_sum I.m x p i ≡ least_sum I x p = of_least I x p i (rw (within_zero I x p i) at both.0) in
      omega (arith, is_above I x p i both.1, up_le I.m x p i)

  -- the search's answers, one after the other
  module _ (h : due2b I x p ≡ true) where
    ring_first : First (suc I.n) (ring_has I x p) (ring2b I x p)
    unfolding due2b ring2b
    ring_first = found (suc I.n) (ring_has I x p) (ltb-true (ring2b I x p) (suc I.n) h)

    ring_positive : ring2b I x p ≡ suc (ring2b I x p - 1)
    ring_positive =
        by_same (ring2b I x p) 0
        (λ e. let q = any_elim I.n (giver_at I x p 0) (rw e at ring_first.passes) in absurd (clash q.passes (start_fails q.index)))
        (λ n. omega arith)

    giver_first : First I.n (giver_at I x p (ring2b I x p)) (giver2b I x p)
    unfolding giver2b
    giver_first = any_found I.n (giver_at I x p (ring2b I x p)) ring_first.passes

    giver_both : (at_distance I x p (ring2b I x p) (giver2b I x p) ≡ true) × (above I x p (giver2b I x p) ≡ true)
    giver_both = and_elim _ (above I x p (giver2b I x p)) giver_first.passes

    giver_ring : at_distance I x p (suc (ring2b I x p - 1)) (giver2b I x p) ≡ true
    giver_ring = subst (λ r. at_distance I x p r (giver2b I x p) ≡ true) ring_positive giver_both.0

    receiver_first : First I.n (λ j. at_distance I x p (ring2b I x p - 1) j && supplies I x p (giver2b I x p) j) (receiver2b I x p)
    unfolding receiver2b
    receiver_first =
        let v = ((distance_said I x p (ring2b I x p - 1) (giver2b I x p)).0 giver_ring).1 in
        any_found I.n (λ j. at_distance I x p (ring2b I x p - 1) j && supplies I x p (giver2b I x p) j) (any_intro _ v.agent v.below (and_intro v.there v.supplied))

    receiver_both : (at_distance I x p (ring2b I x p - 1) (receiver2b I x p) ≡ true) × (supplies I x p (giver2b I x p) (receiver2b I x p) ≡ true)
    receiver_both = and_elim _ (supplies I x p (giver2b I x p) (receiver2b I x p)) receiver_first.passes

    chore_first : First I.m (λ c. owns x (giver2b I x p) c && best I p (receiver2b I x p) c) (chore2b I x p)
    unfolding chore2b supplies
    chore_first = any_found I.m (λ c. owns x (giver2b I x p) c && best I p (receiver2b I x p) c) receiver_both.1

    chore_both : (x (chore2b I x p) ≡ giver2b I x p) × (best I p (receiver2b I x p) (chore2b I x p) ≡ true)
    unfolding owns
    chore_both =
        let both = and_elim (owns x (giver2b I x p) (chore2b I x p)) (best I p (receiver2b I x p) (chore2b I x p)) chore_first.passes in
        (eqb-true (x (chore2b I x p)) (giver2b I x p) both.0, both.1)

    none_nearer : (i : ℕ) → i < I.n → within I x p (ring2b I x p - 1) i ≡ true → price_up_to_one I.m x p i ≤ least_sum I x p
    none_nearer i hi r =
        let q = in_ring_lem I x p (ring2b I x p - 1) i r in
        let l : q.ring < ring2b I x p = omega (arith, ring_positive) in
        let e = any_none I.n (giver_at I x p q.ring) (ring_first.before q.ring l) i hi in
        not-above I x p i (and_rest (above I x p i) e q.held)

  -- 2b never lacks its chore: the search's answers are those of a due move
  pub due_found : due2b I x p ≡ true → Due I x p (ring2b I x p - 1) (giver2b I x p) (receiver2b I x p) (chore2b I x p)
  due_found h =
      record {
        distance = omega (arith, (ring_first h).below, ring_positive h);
        giver = (giver_first h).below;
        receiver = (receiver_first h).below;
        chore = (chore_first h).below;
        owned = (chore_both h).0;
        wants = (chore_both h).1;
        in_ring = at_within I x p _ _ (giver_ring h);
        not_nearer = ((distance_said I x p _ _).0 (giver_ring h)).0;
        near = at_within I x p _ _ (receiver_both h).0;
        giver_above = is_above I x p _ (giver_both h).1;
        nobody_nearer = none_nearer h;
      }

  -- somebody within a distance who is above the least sum makes a move due
  pub is_due : (t i : ℕ) → t ≤ I.n → i < I.n → within I x p t i ≡ true → least_sum I x p < price_up_to_one I.m x p i → due2b I x p ≡ true
  unfolding due2b ring2b
  is_due t i ht hi r a =
      let q = in_ring_lem I x p t i r in
      let l : q.ring < suc I.n = omega arith in
      lt-ltb (ring2b I x p) (suc I.n) (first_some (ring_has I x p) q.ring l (any_intro (giver_at I x p q.ring) i hi (and_intro q.held (above_is I x p i a))))

  pub not_due : due2b I x p ≡ false → (i : ℕ) → i < I.n → reachable I x p i ≡ true → price_up_to_one I.m x p i ≤ least_sum I x p
  unfolding reachable
  not_due h i hi r =
      by_less (least_sum I x p) (price_up_to_one I.m x p i)
      (λ a. absurd (clash (is_due I.n i (le_refl I.n) hi r a) h))
      (λ l. l)

  pub within_more : {s t : ℕ} → s ≤ t → (i : ℕ) → within I x p s i ≡ true → within I x p t i ≡ true
  unfolding within
  within_more h i r = reach_mono I.n (of_least_sum I x p) (supplies I x p) h i r

  -- whoever owns a best chore of somebody reachable is reachable
  pub reachable_closed : (i j c : ℕ) → i < I.n → j < I.n → c < I.m → x c ≡ i → best I p j c ≡ true → reachable I x p j ≡ true → reachable I x p i ≡ true
  unfolding reachable within
  reachable_closed i j c hi hj hc o b r =
      reach_link I.n (of_least_sum I x p) (supplies I x p) i j hi hj r (supplies_intro I x p i j c hc o b)

-- giver and receiver are not at one distance
pub due_hands : {I : Instance} {x p : ℕ → ℕ} {t w u k : ℕ} → Due I x p t w u k → Hands I x k w u
due_hands {I} {x} {p} {t} d =
    record { chore = d.chore; giver = d.giver; receiver = d.receiver; owns = d.owned; apart = λ e. clash d.near (ap (within I x p t) (sym e) ∙ d.not_nearer) }

-- the giver's distance is below n
pub ring_below : {I : Instance} {x p : ℕ → ℕ} {t w u k : ℕ} → Due I x p t w u k → suc t < I.n
unfolding within
ring_below {I} {x} {p} {t} {w} d = reach_early I.n (of_least_sum I x p) (supplies I x p) t w d.giver d.in_ring d.not_nearer

-- a due move of chore k from w to u
module _ {I : Instance} {x p : ℕ → ℕ} {t w u k : ℕ} (d : Due I x p t w u k) {y : ℕ → ℕ} (v : Moves I.m x y k w u) where
  some_agent_lem : 0 < I.n
  some_agent_lem = omega (arith, d.giver)

  giver_left : least_sum I x p < price_sum I.m y p w
  giver_left = omega (arith, d.giver_above, give_leaves v p)

  -- no sum comes to be below the least one
  sum-above : (i : ℕ) → i < I.n → least_sum I x p ≤ price_sum I.m y p i
  sum-above i hi =
      by_same i w (λ e. rw e (omega (arith, giver_left))) λ a.
      by_same i u
      (λ e. rw e (omega (arith, take-sum v p, (least_low I x p some_agent_lem).under u d.receiver)))
      (λ b. omega (arith, other_sum v p i a b, (least_low I x p some_agent_lem).under i hi))

  pub least_rises : least_sum I x p ≤ least_sum I y p
  least_rises =
      let l = least_low I y p some_agent_lem in
      omega (arith, sum-above l.index l.below, l.value)

  -- where the least sum stays, nobody comes to have it
  least_back : least_sum I y p ≡ least_sum I x p → (i : ℕ) → i < I.n → of_least_sum I y p i ≡ true → of_least_sum I x p i ≡ true
  least_back same i hi e =
      let l = of_least I y p i e in
      by_same i w (λ q. absurd (omega (arith, rw q at l, giver_left))) λ a.
      by_same i u
      (λ q. least_of_lem I x p i (omega (arith, rw (← q) at (take-sum v p), (least_low I x p some_agent_lem).under i hi)))
      (λ b. least_of_lem I x p i (omega (arith, other_sum v p i a b)))

  -- nobody nearer than t wants the chore that moves: the giver would be nearer too
  pub wanted_far : (s j : ℕ) → j < I.n → within I x p s j ≡ true → best I p j k ≡ true → t ≤ s
  wanted_far s j hj r b =
      by_less s t
      (λ l. let q = within_step I x p s w j hj r (supplies_intro I x p w j k d.chore d.owned b) in absurd (clash (within_more I x p some_agent_lem l w q) d.not_nearer))
      (λ l. l)

  -- Lemma rings: where the receiver is not of least sum, the least sum stays, and no distance falls; up to t none grows
  module _ (far : price_sum I.m x p u ≡ least_sum I x p → ⊥) where
    least_stays : least_sum I y p ≡ least_sum I x p
    least_stays =
        let l = least_low I x p some_agent_lem in
        let a : l.index ≡ w → ⊥ = λ e. omega (arith, rw e at l.value, d.giver_above, up_le I.m x p w) in
        let b : l.index ≡ u → ⊥ = λ e. far (rw e at l.value) in
        let z = (least_low I y p some_agent_lem).under l.index l.below in
        omega (arith, z, l.value, other_sum v p l.index a b, least_rises)

    least_forth : (i : ℕ) → of_least_sum I x p i ≡ true → of_least_sum I y p i ≡ true
    least_forth i e =
        let l = of_least I x p i e in
        let a : i ≡ w → ⊥ = λ q. omega (arith, rw q at l, d.giver_above, up_le I.m x p w) in
        let b : i ≡ u → ⊥ = λ q. far (rw q at l) in
        least_of_lem I y p i (omega (arith, other_sum v p i a b, least_stays))

    pub rings_back : (s i : ℕ) → i < I.n → within I y p s i ≡ true → within I x p s i ≡ true
    rings_back zero i hi r = rw (within_zero I x p i) (least_back least_stays i hi (rw (within_zero I y p i) at r))
    rings_back (suc s) i hi r =
        within_cases I y p s i r (λ e. within_kept I x p s i (rings_back s i hi e)) λ j.
        let c = supplies_elim I y p i j.agent j.supplied in
        let near = rings_back s j.agent j.below j.there in
        by_same c.chore k
        (λ e. let l = wanted_far s j.agent j.below near (rw e at c.wanted) in let q : i ≡ u = sym c.owned ∙ ap y e ∙ v.target in rw q (within_more I x p some_agent_lem (le_step l) u d.near))
        (λ ne. within_step I x p s i j.agent j.below near (supplies_intro I x p i j.agent c.chore c.below (v.rest c.chore c.below ne ∙ c.owned) c.wanted))

    pub rings_forth : (s i : ℕ) → s ≤ t → i < I.n → within I x p s i ≡ true → within I y p s i ≡ true
    rings_forth zero i hs hi r = rw (within_zero I y p i) (least_forth i (rw (within_zero I x p i) at r))
    rings_forth (suc s) i hs hi r =
        within_cases I x p s i r (λ e. within_kept I y p s i (rings_forth s i (omega arith) hi e)) λ j.
        let c = supplies_elim I x p i j.agent j.supplied in
        let near = rings_forth s j.agent (omega arith) j.below j.there in
        by_same c.chore k
        (λ e. absurd (omega (arith, wanted_far s j.agent j.below j.there (rw e at c.wanted))))
        (λ ne. within_step I y p s i j.agent j.below near (supplies_intro I y p i j.agent c.chore c.below (sym (v.rest c.chore c.below ne) ∙ c.owned) c.wanted))
