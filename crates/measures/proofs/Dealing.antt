-- Laws of dealing by what the bundles cost: one level after the other, and what a bundle costs at most.
-- Assumes nothing.
use Prim.Native.Nat.{ℕ, zero, suc, ◌+◌, ◌*◌, ◌-◌, ◌^◌, ◌≤◌, ◌<◌}
use mathlib.Core.List.{List}
use mathlib.Core.Path.{◌≡◌, refl, sym, ap, ◌∙◌}
use mathlib.Core.Logic.{◌⊎◌, ⊎_elim}
use native.Mathlib.Nat.{le_refl, add-zero, add-suc, mul-suc, mul-one, mul-add, mul-le-mul_left}
use native.Mathlib.Omega.{arith}
use lib.ListN.{length, get_or}
use borrow.Author.Tests.{lt-ltb, le-ltb}
use borrow.Author.Count.{below_more}
use Rattle.finite.proofs.Below.{none_below, by_same, by_less}
use Rattle.finite.proofs.Chosen.{smaller_order, chosen_intro, chosen_unique}
use Rattle.model.specs.Limits.{max_agents}
use Rattle.measures.specs.Dealing.{cheapest, added_to, dealt_one, dealt_on, Dealing, LevelPassed, LevelDealt}
use Rattle.measures.proofs.Levels.{added_long, added_here, added_other, cheapest_below, cheapest_least}

pub dealt_long : (n w k : ℕ) (costs : List ℕ) → length (dealt_on n w k costs) ≡ length costs
unfolding dealt_on dealt_one
dealt_long n w zero costs = refl
dealt_long n w (suc k) costs = added_long _ w _ ∙ dealt_long n w k costs

-- none of them
pub dealt_start : (n w count : ℕ) (costs : List ℕ) → costs ≡ dealt_on n w (count - count) costs
unfolding dealt_on
dealt_start n w count costs = let none : count - count ≡ 0 = omega arith in rw none

-- so many, and then so many more
pub dealt_more : (n w s t : ℕ) (costs : List ℕ) → dealt_on n w t (dealt_on n w s costs) ≡ dealt_on n w (s + t) costs
unfolding dealt_on
dealt_more n w s zero costs = ap (λ k. dealt_on n w k costs) (sym (add-zero s))
dealt_more n w s (suc t) costs = ap (dealt_one n w) (dealt_more n w s t costs) ∙ ap (λ k. dealt_on n w k costs) (sym (add-suc s t))

-- no bundle gets more than all of them
pub dealt_at_most : {n : ℕ} (w k : ℕ) (costs : List ℕ) → 0 < n → n ≤ length costs → (j : ℕ) → get_or (dealt_on n w k costs) j 0 ≤ get_or costs j 0 + w * k
unfolding dealt_on dealt_one
dealt_at_most w zero costs some room j = omega arith
dealt_at_most {n} w (suc k) costs some room j =
    let before = dealt_on n w k costs in
    let v = cheapest n before in
    let here = added_here v w before (omega (arith, cheapest_below before some, dealt_long n w k costs)) in
    let more : w * suc k ≡ w * k + w = mul-suc w k in
    by_same j v
    (λ e. rw e (omega (arith, here, dealt_at_most w k costs some room v)))
    (λ ne. omega (arith, added_other v w before j ne, dealt_at_most w k costs some room j))

-- a level, bundle by bundle
module _ {n w least count : ℕ} {costs : List ℕ} (d : Dealing n w count costs) where
  -- none has been passed
  pub passed_none : least ≡ get_or costs (cheapest n costs) 0 → LevelPassed n w least count costs 0 count costs
  passed_none is =
      record {
        within = omega arith;
        remain = le_refl count;
        dealt = dealt_start n w count costs;
        above = λ j l. none_below l;
        under = λ j l. rw is (cheapest_least costs d.some j l);
      }

  module _ {k left : ℕ} {costs' : List ℕ} (p : LevelPassed n w least count costs k left costs') (below : k < n) where
    pub passed_long : length costs' ≡ max_agents
    passed_long = ap length p.dealt ∙ dealt_long n w (count - left) costs ∙ d.size

    -- what one more costs fits
    pub passed_small : 0 < left → get_or costs' k 0 + w < 2 ^ 32
    passed_small some =
        let done = count - left in
        let more : done + 1 ≤ count = omega (arith, p.remain) in
        let at : get_or costs' k 0 ≤ get_or costs k 0 + w * done = rw p.dealt (dealt_at_most w done costs d.some (omega (arith, d.size, d.agents)) k) in
        omega (arith, at, d.small k below, mul-le-mul_left w more, mul-add w done 1, mul-one w)

    -- it costs more than the least
    pub passed_on : (get_or costs' k 0 ≡ least → ⊥) → LevelPassed n w least count costs (k + 1) left costs'
    passed_on ne =
        record {
          within = omega arith;
          remain = p.remain;
          dealt = p.dealt;
          above = below_more (λ j. least < get_or costs' j 0) k p.above (omega (arith, p.under k below));
          under = p.under;
        }

    -- it is the cheapest, so that a chore is dealt to it
    this_cheapest : get_or costs' k 0 ≡ least → cheapest n costs' ≡ k
    unfolding cheapest
    this_cheapest e =
        chosen_unique
        (chosen_intro (smaller_order (λ j. get_or costs' j 0)) below refl
        (λ j l _. le-ltb (get_or costs' j 0) (get_or costs' k 0) (omega (arith, p.under j l)))
        (λ j l _. lt-ltb (get_or costs' k 0) (get_or costs' j 0) (omega (arith, p.above j l))))

    pub passed_dealt : get_or costs' k 0 ≡ least → 0 < left → LevelPassed n w least count costs (k + 1) (left - 1) (added_to k w costs')
    unfolding dealt_on dealt_one
    passed_dealt e some =
        let here = added_here k w costs' (omega (arith, passed_long, d.agents)) in
        let apart = added_other k w costs' in
        record {
          within = omega arith;
          remain = omega (arith, p.remain);
          dealt =
              let one : count - (left - 1) ≡ suc (count - left) = omega (arith, p.remain) in
              rw (one, ← p.dealt, this_cheapest e);
          above = below_more (λ j. least < get_or (added_to k w costs') j 0) k (λ j l. rw (apart j (λ q. omega arith)) (p.above j l)) (rw here (omega (arith, d.positive)));
          under = λ j l. by_same j k (λ q. rw (q, here) (omega arith)) (λ ne. rw (apart j ne) (p.under j l));
        }

  -- all have been passed, or no chore is left
  pub passed_all : {k left : ℕ} {costs' : List ℕ} → least ≡ get_or costs (cheapest n costs) 0 → LevelPassed n w least count costs k left costs' → (left ≡ 0) ⊎ (k ≡ n) → LevelDealt n w count costs costs' left
  passed_all {k} {left} {costs'} is p end =
      record {
        remain = p.remain;
        fewer = λ some. ⊎_elim (λ e. omega arith) (λ e. by_less left count (λ l. l) (λ l. absurd (stuck e l))) end;
        dealt = p.dealt;
      }
    where
      stuck : k ≡ n → count ≤ left → ⊥
      stuck e l =
          let none : count - left ≡ count - count = omega arith in
          let same : costs' ≡ costs = p.dealt ∙ ap (λ t. dealt_on n w t costs) none ∙ sym (dealt_start n w count costs) in
          let low = p.above (cheapest n costs) (rw e (cheapest_below costs d.some)) in
          let here : least < get_or costs (cheapest n costs) 0 = rw same at low in
          omega arith

-- some have been dealt, the others are still to be
module _ {n w count left : ℕ} {costs costs' : List ℕ} (d : Dealing n w count costs) (remain : left ≤ count) (dealt : costs' ≡ dealt_on n w (count - left) costs) where
  pub dealing_on : Dealing n w left costs'
  dealing_on =
      let done = count - left in
      let all : w * done + w * left ≡ w * count = sym (mul-add w done left) ∙ ap (λ k. w * k) (omega arith) in
      record {
        some = d.some;
        positive = d.positive;
        agents = d.agents;
        size = ap length dealt ∙ dealt_long n w done costs ∙ d.size;
        small = λ k l. rw dealt (omega (arith, dealt_at_most w done costs d.some (omega (arith, d.size, d.agents)) k, d.small k l));
      }

  -- a level more
  pub level_more : {r : ℕ} {costs'' : List ℕ} → LevelDealt n w left costs' costs'' r → costs'' ≡ dealt_on n w (count - r) costs
  level_more {r} t =
      t.dealt ∙ ap (dealt_on n w (left - r)) dealt ∙ dealt_more n w (count - left) (left - r) costs ∙ ap (λ k. dealt_on n w k costs) (omega (arith, t.remain))
