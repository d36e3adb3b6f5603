-- Step 2a: a due move has its chore, keeps the invariant of its stage and lowers a number; with no move due the stage passes.
-- Assumes nothing.
use Prim.Native.Nat.{ℕ, ◌-◌, ◌≤◌, ◌<◌, zero-le}
use mathlib.Core.Bool.{Bool, true, false}
use mathlib.Core.Logic.{◌⊎◌, inl, inr}
use mathlib.Core.Path.{◌≡◌, refl, sym, ap}
use native.Mathlib.Nat.{le_refl, le_of_eq}
use native.Mathlib.Omega.{arith}
use lib.Dec.{leb, eqb, ltb}
use borrow.Author.Tests.{ltb-true, ltb-false, lt-ltb, le-leb, lt-leb, eqb-true, eq-eqb, not-true}
use Rattle.finite.specs.Moves.{Moves}
use Rattle.finite.proofs.Tests.{cond_true, and_elim, and_intro, and_rest, not_no, not_on, cond-le}
use Rattle.finite.proofs.Below.{by_less, by_same}
use Rattle.finite.proofs.Search.{found, first_some}
use Rattle.finite.proofs.Where.{where_le}
use Rattle.finite.proofs.Counts.{count_change}
use Rattle.finite.proofs.Chosen.{Chosen, chosen_found, smaller, greater, smaller_order, greater_order, smallest_le, greatest_ge}
use Rattle.finite.proofs.Running.{chosen_some}
use Rattle.model.specs.Instance.{Instance}
use Rattle.model.specs.Fairness.{owns, total}
use Rattle.model.specs.Prices.{price_sum, price_up_to_one}
use Rattle.model.specs.Step2a.{giver2a, receiver2a, due2a, chore2a}
use Rattle.model.specs.Record.{Hands}
use Rattle.algorithm.specs.Kinds.{Sound}
use Rattle.algorithm.specs.Core.{Core}
use Rattle.algorithm.specs.Phases.{cut_price, Entitled, Stage, Began, Quiet}
use Rattle.algorithm.specs.Chain.{held}
use Rattle.algorithm.specs.Stages.{DueA}
use Rattle.algorithm.proofs.UpToOne.{up_top, up_same, up_others, give_sum, take-sum, take_top, other_sum}
use Rattle.algorithm.proofs.Best.{uncut_best, one_price, none_dearer, core_moved}
use Rattle.algorithm.proofs.Rings.{least_low}

-- the entitled chores alone come to no more
cut_sum_le : (m : ℕ) (x p : ℕ → ℕ) (cut : ℕ → Bool) (j : ℕ) → price_sum m x (cut_price p cut) j ≤ price_sum m x p j
unfolding total cut_price
cut_sum_le m x p cut j = where_le m (owns x j) (λ c h o. cond-le (cut c) (λ e. le_refl (p c)) (λ e. zero-le))

-- whoever owns cut chores only has its price-one from them
cut_up_same : (m : ℕ) (x p : ℕ → ℕ) (cut : ℕ → Bool) (i : ℕ) → ((c : ℕ) → c < m → x c ≡ i → cut c ≡ true) → price_up_to_one m x p i ≡ price_up_to_one m x (cut_price p cut) i
unfolding cut_price
cut_up_same m x p cut i h = up_same m i (λ c l. refl) (λ c l o. sym (cond_true (p c) 0 (h c l o)))

-- whom the two choices of 2a name
module _ (I : Instance) (x p group : ℕ → ℕ) (cut : ℕ → Bool) (g : ℕ) where
  giver_chosen : giver2a I x p group cut g < I.n → Chosen I.n (λ i. eqb (group i) g) (greater (price_up_to_one I.m x p)) (giver2a I x p group cut g)
  unfolding giver2a
  giver_chosen l = chosen_found I.n _ _ l

  receiver_chosen : receiver2a I x p group cut g < I.n → Chosen I.n (λ i. ltb g (group i)) (smaller (price_sum I.m x p)) (receiver2a I x p group cut g)
  unfolding receiver2a
  receiver_chosen l = chosen_found I.n _ _ l

  giver_greatest : giver2a I x p group cut g < I.n → (k : ℕ) → k < I.n → group k ≡ g → price_up_to_one I.m x p k ≤ price_up_to_one I.m x p (giver2a I x p group cut g)
  giver_greatest l k h e = greatest_ge (price_up_to_one I.m x p) (giver_chosen l) k h (eq-eqb (group k) g e)

  receiver_least : receiver2a I x p group cut g < I.n → (k : ℕ) → k < I.n → g < group k → price_sum I.m x p (receiver2a I x p group cut g) ≤ price_sum I.m x p k
  receiver_least l k h e = smallest_le (price_sum I.m x p) (receiver_chosen l) k h (lt-ltb g (group k) e)

  giver_some : (k : ℕ) → k < I.n → group k ≡ g → giver2a I x p group cut g < I.n
  unfolding giver2a
  giver_some k h e = chosen_some (greater_order (price_up_to_one I.m x p)) I.n (λ i. eqb (group i) g) k h (eq-eqb (group k) g e)

  receiver_some : (k : ℕ) → k < I.n → g < group k → receiver2a I x p group cut g < I.n
  unfolding receiver2a
  receiver_some k h e = chosen_some (smaller_order (price_sum I.m x p)) I.n (λ i. ltb g (group i)) k h (lt-ltb g (group k) e)

  -- what the test of 2a says where it passes, and where it fails
  due_elim : due2a I x p group cut g ≡ true → (giver2a I x p group cut g < I.n) × (receiver2a I x p group cut g < I.n) × (price_sum I.m x p (receiver2a I x p group cut g) < price_up_to_one I.m x p (giver2a I x p group cut g))
  unfolding due2a
  due_elim h =
      let outer = and_elim _ _ h in
      let inner = and_elim _ _ outer.1 in
      (ltb-true _ _ outer.0, ltb-true _ _ inner.0, ltb-true _ _ inner.1)

  due_none : due2a I x p group cut g ≡ false → giver2a I x p group cut g < I.n → receiver2a I x p group cut g < I.n → price_up_to_one I.m x p (giver2a I x p group cut g) ≤ price_sum I.m x p (receiver2a I x p group cut g)
  unfolding due2a
  due_none h i j = ltb-false _ _ (and_rest _ (and_rest _ h (lt-ltb _ _ i)) (lt-ltb _ _ j))

  chore_found : chore2a I x p group cut g < I.m → (x (chore2a I x p group cut g) ≡ giver2a I x p group cut g) × (cut (chore2a I x p group cut g) ≡ false)
  unfolding chore2a owns
  chore_found l =
      let both = and_elim _ _ (found I.m _ l).passes in
      (eqb-true _ _ both.0, not-true _ both.1)

  chore_some : (c : ℕ) → c < I.m → x c ≡ giver2a I x p group cut g → cut c ≡ false → chore2a I x p group cut g < I.m
  unfolding chore2a owns
  chore_some c l o f = first_some _ c l (and_intro (eq-eqb _ _ o) (not_on f))

  -- 2a never lacks its chore: with entitled chores alone the giver would not be above the receiver
  chore_there : {top : ℕ} → 0 < g → Entitled I p group cut x top → due2a I x p group cut g ≡ true → chore2a I x p group cut g < I.m
  chore_there some E h =
      let i = giver2a I x p group cut g in
      let j = receiver2a I x p group cut g in
      let d = due_elim h in
      let at : group i ≡ g = eqb-true _ _ (giver_chosen d.0).passes in
      let later : g < group j = ltb-true _ _ (receiver_chosen d.1).passes in
      by_less (chore2a I x p group cut g) I.m (λ l. l) λ l.
      let all : (c : ℕ) → c < I.m → x c ≡ i → cut c ≡ true = λ c hc o. not_no (cut c) (λ f. omega (arith, chore_some c hc o f)) in
      absurd (omega (arith, cut_up_same I.m x p cut i all, E.order i j d.0 d.1 (omega arith) (omega arith), cut_sum_le I.m x p cut j))

  pub stage_due : {top : ℕ} → 0 < g → Entitled I p group cut x top → due2a I x p group cut g ≡ true → DueA I x p group cut g (giver2a I x p group cut g) (receiver2a I x p group cut g) (chore2a I x p group cut g)
  stage_due some E h =
      let d = due_elim h in
      let there = chore_there some E h in
      let c = chore_found there in
      record {
        some = some;
        giver = d.0;
        receiver = d.1;
        at_work = eqb-true _ _ (giver_chosen d.0).passes;
        later = ltb-true _ _ (receiver_chosen d.1).passes;
        greatest = giver_greatest d.0;
        least = receiver_least d.1;
        above = d.2;
        chore = there;
        owned = c.0;
        uncut = c.1;
      }

-- giver and receiver are not in one group
pub stage_hands : {I : Instance} {x p group : ℕ → ℕ} {cut : ℕ → Bool} {g i j c : ℕ} → DueA I x p group cut g i j c → Hands I x c i j
stage_hands {group} D =
    record { chore = D.chore; giver = D.giver; receiver = D.receiver; owns = D.owned; apart = λ e. omega (arith, ap group e) }

-- a due move of chore c from i to j
module _ {I : Instance} {x p group : ℕ → ℕ} {cut : ℕ → Bool} (S : Sound I) (K : Core I x p group cut) {top g i j c : ℕ} (T : Stage I p group cut x top g) (D : DueA I x p group cut g i j c) {y : ℕ → ℕ} (v : Moves I.m x y c i j) where
  -- nothing is dearer than the chore that moves
  moved_top : (d : ℕ) → d < I.m → p d ≤ p c
  moved_top d l =
      omega (arith, one_price S K T.some_group c D.chore D.uncut, none_dearer S K T.some_group d l)

  giver_after : price_sum I.m y p i ≡ price_up_to_one I.m x p i
  giver_after =
      omega (arith, give_sum v p, up_top I.m x p i c D.chore D.owned (λ d l o. moved_top d l))

  receiver_after : price_up_to_one I.m y p j ≡ price_sum I.m x p j
  receiver_after = take_top v p (λ d l o. moved_top d l)

  -- the sum falls for the giver alone
  sum_after : (k : ℕ) → (k ≡ i → ⊥) → price_sum I.m x p k ≤ price_sum I.m y p k
  sum_after k ne =
      by_same k j (λ e. rw e (omega (arith, take-sum v p))) (λ n. le_of_eq (sym (other_sum v p k ne n)))

  -- the receiver's new price-one against old sums
  receiver_fair : (k : ℕ) → k < I.n → 0 < group k → price_up_to_one I.m y p j ≤ price_sum I.m x p k
  receiver_fair k h gk =
      by_less g (group k) (λ l. omega (arith, receiver_after, D.least k h l)) λ l.
      omega (arith, receiver_after, T.fair i k D.giver h (omega arith) gk (inr (omega arith)))

  -- old price-ones against the giver's new sum
  giver_fair : (k : ℕ) → k < I.n → 0 < group k → g ≤ group k → price_up_to_one I.m x p k ≤ price_sum I.m y p i
  giver_fair k h gk r =
      by_less g (group k) (λ l. omega (arith, giver_after, T.fair k j h D.receiver gk (omega arith) (inl l))) λ l.
      omega (arith, giver_after, D.greatest k h (omega arith))

  fair_after : (k l : ℕ) → k < I.n → l < I.n → 0 < group k → 0 < group l → (g < group k) ⊎ (group l ≤ group k) → price_up_to_one I.m y p k ≤ price_sum I.m y p l
  fair_after k l hk hl gk gl r =
      by_same k j
      (λ ek. by_same l i
      (λ el. rw (ek, el) (omega (arith, receiver_after, giver_after)))
      (λ nl. rw ek (omega (arith, receiver_fair l hl gl, sum_after l nl))))
      (λ nk. by_same l i
      (λ el. rw el (omega (arith, up_others v p k nk, giver_fair k hk gk (reaches r el))))
      (λ nl. omega (arith, up_others v p k nk, T.fair k l hk hl gk gl r, sum_after l nl)))
    where
      reaches : (g < group k) ⊎ (group l ≤ group k) → l ≡ i → g ≤ group k
      reaches (inl a) e = omega arith
      reaches (inr a) e = omega (arith, ap group e)

  pub stage_moved : Stage I p group cut y top g
  stage_moved =
      record {
        some_group = T.some_group;
        fair = fair_after;
        low = λ k h gk. by_same k j (λ e. rw e (omega (arith, receiver_after, T.low i D.giver (omega arith)))) (λ n. omega (arith, up_others v p k n, T.low k h gk));
        rest = λ k h gk. omega (arith, T.rest k h gk, sum_after k (λ e. omega (arith, ap group e)));
      }

  pub stage_core : Core I y p group cut
  stage_core =
      core_moved S K v D.receiver (uncut_best S K j c D.receiver (omega arith) D.chore D.uncut)

-- the chore leaves the groups up to the one at work
pub stage_falls : {I : Instance} {x p group : ℕ → ℕ} {cut : ℕ → Bool} {g i j c : ℕ} {y : ℕ → ℕ} → DueA I x p group cut g i j c → Moves I.m x y c i j → held I y (λ a. leb (group a) g) < held I x (λ a. leb (group a) g)
unfolding held
stage_falls {x = x} {group = group} {g = g} {c = c} {y = y} D v =
    let after : ℕ → Bool = λ d. leb (group (y d)) g in
    let before : ℕ → Bool = λ d. leb (group (x d)) g in
    omega (arith, count_change after before c D.chore (lt-leb _ g (omega (arith, ap group v.target))) (le-leb _ g (omega (arith, ap group D.owned))) (λ d l n. ap (λ o. leb (group o) g) (sym (v.rest d l n))))

-- with no move due, a member of group g against later groups
none_due : (I : Instance) (x p group : ℕ → ℕ) (cut : ℕ → Bool) (g : ℕ) → due2a I x p group cut g ≡ false → (k l : ℕ) → k < I.n → l < I.n → group k ≡ g → g < group l → price_up_to_one I.m x p k ≤ price_sum I.m x p l
none_due I x p group cut g h k l hk hl gk gl =
    let i = giver_some I x p group cut g k hk gk in
    let j = receiver_some I x p group cut g l hl gl in
    omega (arith, giver_greatest I x p group cut g i k hk gk, due_none I x p group cut g h i j, receiver_least I x p group cut g j l hl gl)

module _ {I : Instance} {x p group : ℕ → ℕ} {cut : ℕ → Bool} {top : ℕ} where
  pub stage_passed : {g : ℕ} → 0 < g → due2a I x p group cut g ≡ false → Stage I p group cut x top g → Stage I p group cut x top (g - 1)
  stage_passed {g} some h T =
      record { some_group = T.some_group; fair = fair; low = T.low; rest = T.rest }
    where
      fair : (k l : ℕ) → k < I.n → l < I.n → 0 < group k → 0 < group l → (g - 1 < group k) ⊎ (group l ≤ group k) → price_up_to_one I.m x p k ≤ price_sum I.m x p l
      fair k l hk hl gk gl (inr r) = T.fair k l hk hl gk gl (inr r)
      fair k l hk hl gk gl (inl r) =
          by_less g (group k) (λ a. T.fair k l hk hl gk gl (inl a)) λ a.
          by_less g (group l) (λ b. none_due I x p group cut g h k l hk hl (omega arith) b) λ b.
          T.fair k l hk hl gk gl (inr (omega arith))

  -- when the last stage has passed, no member of a group is above the least sum
  pub stage_quiet : Sound I → Stage I p group cut x top 0 → Quiet I p group cut x
  stage_quiet S T =
      let low = least_low I x p S.some in
      let l = low.index in
      record {
        quiet = λ i h gi. rw (← low.value)
            (by_less 0 (group l) (λ gl. T.fair i l h low.below gi gl (inl gi)) (λ gl. omega (arith, T.low i h gi, T.rest l low.below (omega arith))));
      }

  pub stage_began : Core I x p group cut → Stage I p group cut x top 0 → Began I p group cut x top
  stage_began K T = record { some_group = T.some_group; core = K; rest = T.rest }
