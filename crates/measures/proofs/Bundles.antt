-- Dealing chores into bundles: each chore that is dealt is in one of n bundles, and what the bundles cost is what dealing by costs alone makes.
-- Assumes nothing.
use Prim.Native.Nat.{ℕ, zero, suc, ◌+◌, ◌≤◌, ◌<◌}
use mathlib.Core.Bool.{Bool, true, false}
use mathlib.Core.List.{List}
use mathlib.Core.Path.{◌≡◌, refl, sym, ap, ap₂, ◌∙◌}
use native.Mathlib.Nat.{le_refl}
use native.Mathlib.Numerals.{add-one}
use native.Mathlib.Omega.{arith}
use lib.Dec.{ltb}
use lib.ListN.{length, get_or, set, length-set}
use lib.Seq.{get_or-set_same, get_or-set_other}
use Rattle.finite.specs.Sums.{count_to}
use Rattle.finite.specs.Lists.{Table}
use Rattle.finite.proofs.Tests.{by_test, by_cond, clash}
use Rattle.finite.proofs.Below.{none_below, by_top}
use Rattle.finite.proofs.Counts.{count_zero, count_hit, count_miss}
use Rattle.finite.proofs.Chosen.{chosen_cong}
use Rattle.finite.proofs.Running.{smallest_some}
use Rattle.finite.proofs.Sweeps.{table-set}
use Rattle.finite.proofs.Filled.{filled_more, filled_same}
use Rattle.model.specs.Instance.{Instance, cost}
use Rattle.model.specs.MaximinShare.{in_bundle, bundle_cost, cheapest_bundle, deal_chore, deal_kind}
use Rattle.measures.specs.Dealing.{cheapest, added_to, dealt_one, dealt_on}

-- of the first k chores those of one kind have been dealt, the others are where they were
pub record InBundles (n : ℕ) (kind : ℕ → Bool) (k : ℕ) (old new : List ℕ) : Type 0 where
  pub size : length new ≡ length old
  pub positive : (c : ℕ) → c < k → kind c ≡ true → 0 < get_or new c 0
  pub bounded : (c : ℕ) → c < k → kind c ≡ true → get_or new c 0 ≤ n
  pub other : (c : ℕ) → kind c ≡ false → get_or new c 0 ≡ get_or old c 0
  pub later : (c : ℕ) → k ≤ c → get_or new c 0 ≡ get_or old c 0

module _ (I : Instance) (i : ℕ) (some : 0 < I.n) where
  cheapest_bundle_lem : (bundles : List ℕ) → cheapest_bundle I i bundles < I.n
  unfolding cheapest_bundle
  cheapest_bundle_lem bundles = smallest_some (bundle_cost I i bundles) some

  -- one chore more, which is of that kind or not
  module _ {kind : ℕ → Bool} {k : ℕ} {old new : List ℕ} (p : InBundles I.n kind k old new) where
    place_hit : k < length old → kind k ≡ true → InBundles I.n kind (suc k) old (set new k (cheapest_bundle I i new + 1))
    place_hit l h =
        let v = cheapest_bundle I i new + 1 in
        let here : get_or (set new k v) k 0 ≡ v = get_or-set_same new k v 0 (omega (arith, p.size)) in
        let apart : (c : ℕ) → (c ≡ k → ⊥) → get_or (set new k v) c 0 ≡ get_or new c 0 = λ c. get_or-set_other new k c v 0 in
        record {
          size = length-set new k v ∙ p.size;
          positive = λ c b e. by_top b (λ q. rw (q, here) (omega arith)) (λ b'. rw (apart c (λ q. omega arith)) (p.positive c b' e));
          bounded = λ c b e.
              by_top b (λ q. rw (q, here) (omega (arith, cheapest_bundle_lem new)))
              (λ b'. rw (apart c (λ q. omega arith)) (p.bounded c b' e));
          other = λ c e. apart c (λ q. clash (ap kind q ∙ h) e) ∙ p.other c e;
          later = λ c b. apart c (λ q. omega arith) ∙ p.later c (omega arith);
        }

    place_miss : kind k ≡ false → InBundles I.n kind (suc k) old new
    place_miss h =
        record {
          size = p.size;
          positive = λ c b e. by_top b (λ q. absurd (clash e (ap kind q ∙ h))) (λ b'. p.positive c b' e);
          bounded = λ c b e. by_top b (λ q. absurd (clash e (ap kind q ∙ h))) (λ b'. p.bounded c b' e);
          other = p.other;
          later = λ c b. p.later c (omega arith);
        }

  pub kind_dealt : (kind : ℕ → Bool) (k : ℕ) (old : List ℕ) → k ≤ length old → InBundles I.n kind k old (deal_kind I i kind k old)
  unfolding deal_kind deal_chore
  kind_dealt kind zero old l =
      record { size = refl; positive = λ c b. none_below b; bounded = λ c b. none_below b; other = λ c e. refl; later = λ c b. refl }
  kind_dealt kind (suc k) old l =
      let before = kind_dealt kind k old (omega arith) in
      by_cond (InBundles I.n kind (suc k) old) (kind k) _ _ (place_hit before l) (place_miss before)

-- what `size` bundles cost, of which the first n may be dealt to
module _ (I : Instance) (i size : ℕ) (some : 0 < I.n) (fits : I.n ≤ size) where
  cheapest_same : (bundles : List ℕ) {costs : List ℕ} → Table size (bundle_cost I i bundles) costs → cheapest_bundle I i bundles ≡ cheapest I.n costs
  unfolding cheapest_bundle cheapest
  cheapest_same bundles t =
      chosen_cong I.n (λ k l. refl) (λ j k h l. ap₂ ltb (sym (t.entry j (omega arith))) (sym (t.entry k (omega arith))))

  -- a chore of cost w that is in no bundle yet
  deal_costs : {w k : ℕ} (bundles : List ℕ) {costs : List ℕ} → Table size (bundle_cost I i bundles) costs → k < I.m → k < length bundles → get_or bundles k 0 ≡ 0 → cost I i k ≡ w → Table size (bundle_cost I i (set bundles k (cheapest_bundle I i bundles + 1))) (dealt_one I.n w costs)
  unfolding bundle_cost in_bundle dealt_one added_to
  deal_costs bundles t l there free weighs =
      let v = cheapest_bundle I i bundles in
      let below : v < size = omega (arith, cheapest_bundle_lem I i some bundles) in
      rw (← cheapest_same bundles t)
      (table-set t below
      (rw (filled_more bundles v (cost I i) l there free, weighs, t.entry v below))
      (filled_same bundles v (cost I i) l there free))

  -- chores of one kind, each of cost w and in no bundle
  module _ (kind : ℕ → Bool) (w : ℕ) (old : List ℕ) {costs : List ℕ} (long : length old ≡ I.m) (weighs : (c : ℕ) → c < I.m → kind c ≡ true → cost I i c ≡ w) (free : (c : ℕ) → c < I.m → kind c ≡ true → get_or old c 0 ≡ 0) where
    pub kind_costs : (k : ℕ) → k ≤ I.m → Table size (bundle_cost I i old) costs → Table size (bundle_cost I i (deal_kind I i kind k old)) (dealt_on I.n w (count_to k kind) costs)
    unfolding deal_kind deal_chore dealt_on
    kind_costs zero l t = rw (count_zero kind) t
    kind_costs (suc k) l t =
        let before = kind_costs k (omega arith) t in
        let at = kind_dealt I i some kind k old (omega arith) in
        by_test (kind k)
        (λ h. rw (h, ← add-one k, count_hit k kind h, add-one (count_to k kind)) (deal_costs (deal_kind I i kind k old) before l (omega (arith, at.size)) (at.later k (le_refl k) ∙ free k l h) (weighs k l h)))
        (λ h. rw (h, ← add-one k, count_miss k kind h) before)
