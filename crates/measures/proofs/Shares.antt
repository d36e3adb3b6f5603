-- Dealing finds the maximin share where b is a multiple of a: any partition's costliest bundle bounds every bundle that is dealt.
-- Assumes nothing.
use Prim.Native.Nat.{ℕ, ◌+◌, ◌*◌, ◌/◌, ◌≤◌, ◌<◌, ◌∣◌}
use mathlib.Core.Bool.{not}
use mathlib.Core.List.{List}
use mathlib.Core.Path.{◌≡◌, refl, sym, ◌∙◌}
use native.Mathlib.Nat.{le_refl, le_trans, le_of_eq, mul-le-mul_left, mul-div-le, dvd-zero, dvd_trans, dvd-mul_right}
use native.Mathlib.Omega.{arith}
use lib.ListN.{length, get_or, replicate, length-replicate, get_or-replicate}
use borrow.Author.Tests.{ne_eqb, not-true}
use Rattle.finite.specs.Sums.{max_to}
use Rattle.finite.specs.Lists.{Picks, Table}
use Rattle.finite.proofs.Tests.{by_test, not_on, not_off, cond_true, cond_false}
use Rattle.finite.proofs.Sums.{sum_none}
use Rattle.finite.proofs.Where.{where_none}
use Rattle.finite.proofs.Extremes.{top_above, top_at_most, top_cong}
use Rattle.finite.proofs.Sweeps.{table_zeros}
use Rattle.finite.proofs.LeastList.{least_under, least_unique}
use Rattle.model.specs.Instance.{Instance, cost}
use Rattle.model.specs.MaximinShare.{in_bundle, bundle_cost, costliest_bundle, maximin_share, deal_kind, dealt}
use Rattle.model.specs.Promises.{Secured}
use Rattle.model.proofs.Allocations.{allocation_picks, picks_allocation}
use Rattle.measures.specs.Dealing.{dealt_on}
use Rattle.measures.proofs.Levels.{in_all, Level, dealt-level}
use Rattle.measures.proofs.Bearable.{difficult_count, easy_count, Bearable, whole_cost_lem, bearable}
use Rattle.measures.proofs.Bundles.{InBundles, kind_dealt, kind_costs}

-- what the bundles cost when agent i's chores are dealt: the difficult ones, then the easy ones
abbrev pub dealt_costs : Instance → ℕ → ℕ → List ℕ
dealt_costs I i size = dealt_on I.n I.a (easy_count I i) (dealt_on I.n I.b (difficult_count I i) (replicate size 0))

module _ (I : Instance) (i : ℕ) (some : 0 < I.n) where
  -- no chore is in a bundle
  none : List ℕ
  none = replicate I.m 0

  none_long : length none ≡ I.m
  unfolding none
  none_long = length-replicate I.m 0

  -- the difficult ones are dealt
  difficult_dealt : List ℕ
  difficult_dealt = deal_kind I i (λ c. not (I.easy i c)) I.m none

  difficult_dealt_lem : InBundles I.n (λ c. not (I.easy i c)) I.m none difficult_dealt
  unfolding difficult_dealt
  difficult_dealt_lem = kind_dealt I i some (λ c. not (I.easy i c)) I.m none (le_of_eq (sym none_long))

  long : length difficult_dealt ≡ I.m
  long = difficult_dealt_lem.size ∙ none_long

  -- then the easy ones
  all_dealt : InBundles I.n (I.easy i) I.m difficult_dealt (dealt I i)
  unfolding difficult_dealt none dealt
  all_dealt = kind_dealt I i some (I.easy i) I.m difficult_dealt (le_of_eq (sym long))

  pub dealt_picks : Picks I.n I.m (dealt I i)
  dealt_picks =
      record {
        size = all_dealt.size ∙ long;
        positive = λ c l.
            by_test (I.easy i c) (all_dealt.positive c l)
            (λ e. rw (all_dealt.other c e) (difficult_dealt_lem.positive c l (not_on e)));
        bounded = λ c l.
            by_test (I.easy i c) (all_dealt.bounded c l)
            (λ e. rw (all_dealt.other c e) (difficult_dealt_lem.bounded c l (not_on e)));
      }

  -- what the bundles then cost
  module _ (size : ℕ) (fits : I.n ≤ size) where
    nothing : Table size (bundle_cost I i none) (replicate size 0)
    unfolding bundle_cost in_bundle none
    nothing =
        table_zeros
        (λ k. where_none I.m _ (cost I i) (λ c l. rw (get_or-replicate {A = ℕ} I.m c 0 0 l) (ne_eqb 0 (k + 1) (λ q. omega arith))))
        refl

    dealt_costs_lem : Table size (bundle_cost I i (dealt I i)) (dealt_costs I i size)
    unfolding dealt difficult_dealt none cost
    dealt_costs_lem =
        kind_costs I i size some fits (I.easy i) I.a difficult_dealt long
        (λ c l e. cond_true I.a I.b e)
        (λ c l e. difficult_dealt_lem.other c (not_off e) ∙ get_or-replicate I.m c 0 0 l)
        I.m (le_refl _)
        (kind_costs I i size some fits (λ c. not (I.easy i c)) I.b none none_long
        (λ c l e. cond_false I.a I.b (not-true (I.easy i c) e))
        (λ c l e. get_or-replicate I.m c 0 0 l)
        I.m (le_refl _) nothing)

    -- the costliest of them
    pub dealt_top : max_to I.n (λ k. get_or (dealt_costs I i size) k 0) ≡ costliest_bundle I i (dealt I i)
    unfolding costliest_bundle
    dealt_top = top_cong I.n (λ k l. dealt_costs_lem.entry k (le_trans l fits))

-- bundles of nothing
level_none : {n : ℕ} (w L size : ℕ) → n ≤ size → Level n w L (replicate size 0)
level_none w L size fits =
    record {
      room = rw (length-replicate {A = ℕ} size 0) fits;
      most = λ k l. rw (get_or-replicate {A = ℕ} size k 0 0 (omega arith)) (omega arith);
      multiple = λ k l. rw (get_or-replicate {A = ℕ} size k 0 0 (omega arith)) (dvd-zero w);
    }

module _ (I : Instance) (i : ℕ) (some : 0 < I.n) (easy : 0 < I.a) (difficult : 0 < I.b) (divides : I.a ∣ I.b) where
  -- costs that n bundles can bear bound what is dealt
  levels : {M : ℕ} → Bearable I i M → Level I.n I.a M (dealt_costs I i I.n)
  levels {M} B =
      let n = I.n in
      let zeros : List ℕ = replicate n 0 in
      let L = I.b * (M / I.b) in
      let low : L ≤ M = mul-div-le M I.b in
      let empty : in_all n zeros ≡ 0 = sum_none n (λ k l. get_or-replicate n k 0 0 l) in
      let room : I.b * difficult_count I i ≤ n * L = omega (arith, mul-le-mul_left I.b B.difficult) in
      let one = dealt-level some difficult (dvd-mul_right I.b (M / I.b)) (level_none I.b L n (le_refl n)) (difficult_count I i) (omega arith) in
      let start : Level n I.a M (dealt_on n I.b (difficult_count I i) zeros) = record { room = one.level.room; most = λ k l. le_trans (one.level.most k l) low; multiple = λ k l. dvd_trans I.a divides (one.level.multiple k l) } in
      (dealt-level some easy B.multiple start (easy_count I i) (omega (arith, one.together, whole_cost_lem I i, B.costs))).level

  bundles_within : {M : ℕ} → Bearable I i M → (k : ℕ) → k < I.n → bundle_cost I i (dealt I i) k ≤ M
  bundles_within B k l = rw (← (dealt_costs_lem I i some I.n (le_refl _)).entry k l) ((levels B).most k l)

  -- "no split does better": the share is what the costliest bundle dealt costs
  pub share_dealt : maximin_share I i ≡ costliest_bundle I i (dealt I i)
  unfolding maximin_share costliest_bundle
  share_dealt =
      least_unique some
      (record {
        list = dealt I i;
        picks = dealt_picks I i some;
        value = le_refl _;
        under = dealt_least;
      })
    where
      dealt_least : (y : List ℕ) → Picks I.n I.m y → costliest_bundle I i (dealt I i) ≤ costliest_bundle I i y
      dealt_least y p = top_at_most I.n (bundles_within (bearable I i p some difficult divides))

  pub share_bearable : Bearable I i (maximin_share I i)
  share_bearable = rw share_dealt (bearable I i (dealt_picks I i some) some difficult divides)

  pub secured : Secured I i (maximin_share I i)
  unfolding maximin_share costliest_bundle
  secured =
      record {
        least = λ y e. least_under (costliest_bundle I i) (allocation_picks I y e);
        partition = picks_allocation I (dealt I i) (dealt_picks I i some);
        within = λ k l. rw share_dealt (top_above (bundle_cost I i (dealt I i)) k l);
      }
