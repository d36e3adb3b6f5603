-- Step 3: the new group is apart from the others, its prices fall exactly, and the core invariant stays.
-- Assumes nothing.
use Prim.Native.Nat.{ℕ, ◌+◌, ◌*◌, ◌<◌}
use mathlib.Core.Bool.{Bool, true, false, not, ◌&&◌, ◌||◌}
use mathlib.Core.Path.{◌≡◌, refl, sym, ap, ◌∙◌}
use native.Mathlib.Nat.{div-eq_of_eq-mul_left}
use native.Mathlib.Omega.{arith}
use borrow.Author.Tests.{eqb-true, not-true}
use Rattle.finite.specs.Search.{Hit}
use Rattle.finite.proofs.Tests.{by_test, clash, not_yes, and_elim, and_intro, or_left, or_right, or_none, not_on, cond_true, cond_false}
use Rattle.finite.proofs.Below.{by_less}
use Rattle.model.specs.Instance.{Instance}
use Rattle.model.specs.Fairness.{owns}
use Rattle.model.specs.Prices.{best, price_sum, price_up_to_one}
use Rattle.model.specs.Step2b.{least_sum, reachable, due2b}
use Rattle.algorithm.specs.Kinds.{Sound, dear, ok, level, kind_price}
use Rattle.algorithm.specs.Core.{Core}
use Rattle.algorithm.specs.Phases.{Quiet}
use Rattle.algorithm.specs.Cuts.{Cuts}
use Rattle.algorithm.proofs.UpToOne.{up_le, sum_holds}
use Rattle.algorithm.proofs.Best.{free_uncut, best_outside, uncut_best}
use Rattle.algorithm.proofs.Rings.{least_low, not_due, reachable_closed}
use Rattle.algorithm.proofs.Chain.{quiet_outside}
use Rattle.algorithm.proofs.Rising.{least_reachable}

-- whoever is out of reach has more than the least sum
pub unreached_sum : (I : Instance) (x p : ℕ → ℕ) → 0 < I.n → (i : ℕ) → i < I.n → reachable I x p i ≡ false → least_sum I x p < price_sum I.m x p i
unreached_sum I x p some i h r =
    by_less (least_sum I x p) (price_sum I.m x p i) (λ l. l) λ l.
    let e : price_sum I.m x p i ≡ least_sum I x p = omega (arith, (least_low I x p some).under i h) in
    absurd (clash (least_reachable I x p some i e) r)

wider : {n : ℕ} {t u : ℕ → Bool} → ((c : ℕ) → c < n → t c ≡ true → u c ≡ true) → Hit n t → Hit n u
wider h r = record { index = r.index; below = r.below; passes = h r.index r.below r.passes }

-- the price of a kind falls exactly
kind_falls : (I : Instance) (c : ℕ) → kind_price I false c * I.a ≡ kind_price I true c * I.b
unfolding kind_price level
kind_falls I c = by_test (dear I c) (λ e. rw e (omega arith)) (λ e. rw e (omega arith))

-- an uncut chore of agent i
record Free (I : Instance) (x : ℕ → ℕ) (cut : ℕ → Bool) (i : ℕ) : Type 0 where
  chore : ℕ
  below : chore < I.m
  owned : x chore ≡ i
  uncut : cut chore ≡ false

outside_free : {I : Instance} {x p group : ℕ → ℕ} {cut : ℕ → Bool} → Core I x p group cut → (i : ℕ) → group i ≡ 0 → 0 < price_sum I.m x p i → Free I x cut i
unfolding owns
outside_free {I} {x} {p} {group} K i g h =
    let o = sum_holds I.m x p i h in
    let e : x o.index ≡ i = eqb-true _ i o.passes in
    record {
      chore = o.index;
      below = o.below;
      owned = e;
      uncut = free_uncut K o.index o.below (ap group e ∙ g);
    }

module _ {I : Instance} {x p group : ℕ → ℕ} {cut : ℕ → Bool} (S : Sound I) (K : Core I x p group cut) (Q : Quiet I p group cut x) (idle : due2b I x p ≡ false) {w : ℕ} (agent : w < I.n) (above : least_sum I x p < price_up_to_one I.m x p w) where
  -- somebody above the least sum is outside the groups and out of reach
  pub outside : group w ≡ 0
  outside = quiet_outside Q w agent above

  pub unreached : reachable I x p w ≡ false
  unreached =
      not_yes (reachable I x p w) (λ r. omega (arith, not_due I x p S.some idle w agent r))

  -- nobody reachable is in a group: it would reach w, who owns an uncut chore
  pub apart : (i : ℕ) → i < I.n → reachable I x p i ≡ true → group i ≡ 0
  apart i h r =
      let o = outside_free K w outside (omega (arith, up_le I.m x p w)) in
      by_less 0 (group i)
      (λ g. absurd (clash (reachable_closed I x p S.some w i o.chore agent h o.below o.owned (uncut_best S K i o.chore h g o.below o.uncut) r) unreached))
      (λ g. omega arith)

-- what the cut changes, for those reachable, and what it leaves, for the others
module _ {I : Instance} {x p group : ℕ → ℕ} {cut : ℕ → Bool} {count : ℕ} {p' group' : ℕ → ℕ} {cut' : ℕ → Bool} (C : Cuts I x p group cut count p' group' cut') where
  pub marked : (c : ℕ) → c < I.m → reachable I x p (x c) ≡ true → cut' c ≡ true
  marked c h r = C.mark c h ∙ or_left (cut c) r

  pub mark_kept : (c : ℕ) → c < I.m → reachable I x p (x c) ≡ false → cut' c ≡ cut c
  mark_kept c h r = C.mark c h ∙ ap (λ t. t || cut c) r

  pub still_cut : (c : ℕ) → c < I.m → cut c ≡ true → cut' c ≡ true
  still_cut c h e = C.mark c h ∙ or_right (reachable I x p (x c)) e

  pub price_kept : (c : ℕ) → c < I.m → reachable I x p (x c) ≡ false → p' c ≡ p c
  price_kept c h r = C.price c h ∙ cond_false _ _ r

  pub joined : (i : ℕ) → i < I.n → reachable I x p i ≡ true → group' i ≡ count + 1
  joined i h r = C.member i h ∙ cond_true _ _ r

  pub group_kept : (i : ℕ) → i < I.n → reachable I x p i ≡ false → group' i ≡ group i
  group_kept i h r = C.member i h ∙ cond_false _ _ r

  -- whoever is in no group afterwards was out of reach and in none
  pub still_outside : (i : ℕ) → i < I.n → group' i ≡ 0 → (reachable I x p i ≡ false) × (group i ≡ 0)
  still_outside i h g =
      by_test (reachable I x p i) (λ r. absurd (omega (arith, joined i h r))) (λ r. (r, sym (group_kept i h r) ∙ g))

  -- a chore uncut afterwards is owned out of reach, and was uncut
  pub still_uncut : (c : ℕ) → c < I.m → cut' c ≡ false → (reachable I x p (x c) ≡ false) × (cut c ≡ false)
  still_uncut c h f = or_none _ _ (sym (C.mark c h) ∙ f)

  module _ (S : Sound I) (K : Core I x p group cut) (apart : (i : ℕ) → i < I.n → reachable I x p i ≡ true → group i ≡ 0) where
    was_uncut : (c : ℕ) → c < I.m → reachable I x p (x c) ≡ true → cut c ≡ false
    was_uncut c h r = free_uncut K c h (apart (x c) (K.owner c h) r)

    old_price : (c : ℕ) → c < I.m → reachable I x p (x c) ≡ true → p c * I.a ≡ kind_price I true c * I.b
    old_price c h r = rw (K.priced c h, was_uncut c h r) (kind_falls I c)

    fallen : (c : ℕ) → c < I.m → reachable I x p (x c) ≡ true → p' c ≡ kind_price I true c
    fallen c h r =
        C.price c h ∙ cond_true _ _ r ∙ div-eq_of_eq-mul_left (omega (arith, S.easier)) (old_price c h r)

    pub exact : (c : ℕ) → c < I.m → reachable I x p (x c) ≡ true → p c * I.a ≡ p' c * I.b
    exact c h r = rw (fallen c h r) (old_price c h r)

    -- what somebody reachable finds ok and is uncut becomes cut
    ok_cut : (i c : ℕ) → i < I.n → reachable I x p i ≡ true → c < I.m → cut c ≡ false → ok I i c ≡ true → cut' c ≡ true
    ok_cut i c hi r hc f o =
        let wants : best I p i c ≡ true = best_outside S K i c hi (apart i hi r) hc ∙ and_intro (not_on f) o in
        marked c hc (reachable_closed I x p S.some (x c) i c (K.owner c hc) hi hc refl wants r)

    new_priced : (c : ℕ) → c < I.m → p' c ≡ kind_price I (cut' c) c
    new_priced c h =
        by_test (reachable I x p (x c)) (λ r. rw (marked c h r) (fallen c h r)) (λ r. rw (mark_kept c h r, price_kept c h r) (K.priced c h))

    new_in_group : (c : ℕ) → c < I.m → cut' c ≡ true → 0 < group' (x c)
    new_in_group c h e =
        by_test (reachable I x p (x c)) (λ r. omega (arith, joined (x c) (K.owner c h) r))
        (λ r. omega (arith, group_kept (x c) (K.owner c h) r, K.cut_in_group c h (sym (mark_kept c h r) ∙ e)))

    new_cut_ok : (c : ℕ) → c < I.m → cut' c ≡ true → ok I (x c) c ≡ true
    new_cut_ok c h e =
        by_test (reachable I x p (x c)) (λ r. K.free_ok c h (was_uncut c h r) (apart (x c) (K.owner c h) r))
        (λ r. K.cut_ok c h (sym (mark_kept c h r) ∙ e))

    new_free_ok : (c : ℕ) → c < I.m → cut' c ≡ false → group' (x c) ≡ 0 → ok I (x c) c ≡ true
    new_free_ok c h f g = K.free_ok c h (still_uncut c h f).1 (still_outside (x c) (K.owner c h) g).1

    new_takes_all : (i : ℕ) → i < I.n → 0 < group' i → (c : ℕ) → c < I.m → cut' c ≡ false → ok I i c ≡ false
    new_takes_all i hi g c hc f =
        let u : cut c ≡ false = (still_uncut c hc f).1 in
        by_test (reachable I x p i) (λ r. not_yes (ok I i c) (λ o. clash (ok_cut i c hi r hc u o) f))
        (λ r. K.group_takes_all i hi (omega (arith, group_kept i hi r)) c hc u)

    new_has_free : (i : ℕ) → i < I.n → group' i ≡ 0 → 0 < I.m → Hit I.m (λ c. not (cut' c) && ok I i c)
    new_has_free i hi g some =
        let out = still_outside i hi g in
        let o = outside_free K i out.1 (omega (arith, unreached_sum I x p S.some i hi out.0)) in
        let c = o.chore in
        let here : reachable I x p (x c) ≡ false = ap (reachable I x p) o.owned ∙ out.0 in
        let good : ok I (x c) c ≡ true = K.free_ok c o.below o.uncut (ap group o.owned ∙ out.1) in
        record {
          index = c;
          below = o.below;
          passes = and_intro (not_on (mark_kept c o.below here ∙ o.uncut)) (ap (λ k. ok I k c) (sym o.owned) ∙ good);
        }

    new_has_cut : (i : ℕ) → i < I.n → 0 < group' i → 0 < I.m → Hit I.m (λ c. cut' c && ok I i c)
    new_has_cut i hi g some =
        by_test (reachable I x p i)
        (λ r. wider (λ c hc e. let both = and_elim (not (cut c)) (ok I i c) e in and_intro (ok_cut i c hi r hc (not-true (cut c) both.0) both.1) both.1) (K.has_free i hi (apart i hi r) some))
        (λ r. wider (λ c hc e. let both = and_elim (cut c) (ok I i c) e in and_intro (still_cut c hc both.0) both.1) (K.has_cut i hi (omega (arith, group_kept i hi r)) some))

    pub cut_core : Core I x p' group' cut'
    cut_core =
        record {
          owner = K.owner;
          priced = new_priced;
          cut_in_group = new_in_group;
          cut_ok = new_cut_ok;
          free_ok = new_free_ok;
          group_takes_all = new_takes_all;
          has_free = new_has_free;
          has_cut = new_has_cut;
        }
