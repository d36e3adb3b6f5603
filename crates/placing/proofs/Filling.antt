-- Laws of a list of owners while it is filled: one chore more, and an agent's quota of easy chores.
-- Assumes nothing.
use Prim.Native.Nat.{ℕ, ◌+◌, ◌-◌, ◌<◌}
use mathlib.Core.Bool.{true, false, not}
use mathlib.Core.Logic.{◌⊎◌, ⊎_elim, inl, inr}
use mathlib.Core.List.{List}
use mathlib.Core.Path.{◌≡◌, refl, ◌∙◌}
use native.Mathlib.Nat.{le_refl}
use native.Mathlib.Omega.{arith}
use lib.ListN.{length, get_or, set, length-set}
use lib.Seq.{get_or-set_same, get_or-set_other}
use borrow.Author.Count.{below_more}
use borrow.Author.Tests.{eq-eqb, ne_eqb, eqb-true}
use Rattle.finite.proofs.Tests.{cond_true, not_on}
use Rattle.finite.proofs.Below.{none_below, by_same}
use Rattle.finite.proofs.Counts.{count_change, count_mono}
use Rattle.finite.proofs.Filled.{filled_more, filled_same}
use Rattle.model.specs.Instance.{Instance, cost}
use Rattle.model.specs.MaximinShare.{in_bundle, bundle_cost}
use Rattle.placing.specs.Filling.{free, free_count, load, PartList, QuotaTakenTo, QuotaTaken}

-- chore c, which has no owner, goes to agent i
module _ {U : Instance} {owners : List ℕ} (F : PartList U owners) {i c : ℕ} (agent : i < U.n) (chore : c < U.m) (none : get_or owners c 0 ≡ 0) where
  inside : c < length owners
  inside = rw F.size chore

  entry_same : (d : ℕ) → (d ≡ c → ⊥) → get_or (set owners c (i + 1)) d 0 ≡ get_or owners d 0
  entry_same d ne = get_or-set_other owners c d (i + 1) 0 ne

  entry_here : get_or (set owners c (i + 1)) c 0 ≡ i + 1
  entry_here = get_or-set_same owners c (i + 1) 0 inside

  pub fewer_free : free_count U.m owners ≡ free_count U.m (set owners c (i + 1)) + 1
  unfolding free_count free
  fewer_free =
      count_change (free (set owners c (i + 1))) (free owners) c chore
      (rw entry_here (ne_eqb (i + 1) 0 (λ e. omega arith)))
      (eq-eqb (get_or owners c 0) 0 none)
      (λ d l ne. rw (entry_same d ne))

  pub load_more : load U (set owners c (i + 1)) i ≡ load U owners i + cost U i c
  unfolding load bundle_cost in_bundle
  load_more = filled_more owners i (cost U i) chore inside none

  pub load_same : (k : ℕ) → (k ≡ i → ⊥) → load U (set owners c (i + 1)) k ≡ load U owners k
  unfolding load bundle_cost in_bundle
  load_same k ne = filled_same owners i (cost U k) chore inside none k ne

  pub filling_on : PartList U (set owners c (i + 1))
  filling_on =
      record {
        size = simp length-set F.size;
        bounded = λ d l. by_same d c (λ e. rw (e, entry_here) (omega arith)) (λ ne. rw (entry_same d ne) (F.bounded d l));
      }

  -- chores that had an owner have one
  pub owned_on : (k : ℕ) → ((d : ℕ) → d < k → 0 < get_or owners d 0) → (d : ℕ) → d < k → 0 < get_or (set owners c (i + 1)) d 0
  owned_on k owned d l = by_same d c (λ e. rw (e, entry_here) (omega arith)) (λ ne. rw (entry_same d ne) (owned d l))

  pub owned_here : 0 < get_or (set owners c (i + 1)) c 0
  owned_here = rw entry_here (omega arith)

-- agent j takes its quota
module _ {U : Instance} (unit : U.a ≡ 1) {j quota : ℕ} {owners : List ℕ} (F : PartList U owners) (agent : j < U.n) where
  pub taken_none : QuotaTakenTo U j quota 0 quota owners owners
  taken_none =
      record {
        took = record { remain = le_refl quota; filling = F; fewer = refl; loaded = refl; others = λ i _. refl };
        passed = λ c l. none_below l;
      }

  module _ {k left : ℕ} {owners' : List ℕ} (t : QuotaTakenTo U j quota k left owners owners') (below : k < U.m) where
    -- the next one has an owner, or is difficult
    pub taken_pass : (free owners' k ≡ true → U.easy j k ≡ false) → QuotaTakenTo U j quota (k + 1) left owners owners'
    taken_pass pass =
        record {
          took = t.took;
          passed = below_more (λ c. free owners' c ≡ true → U.easy j c ≡ false) k t.passed pass;
        }

    pub taken_one : 0 < left → get_or owners' k 0 ≡ 0 → U.easy j k ≡ true → QuotaTakenTo U j quota (k + 1) (left - 1) owners (set owners' k (j + 1))
    unfolding cost free
    taken_one some none easy =
        let T = t.took in
        let one : cost U j k ≡ 1 = cond_true U.a U.b easy ∙ unit in
        record {
          took = record {
            remain = omega (arith, T.remain);
            filling = filling_on T.filling agent below none;
            fewer = omega (arith, T.fewer, fewer_free T.filling agent below none);
            loaded = omega (arith, T.loaded, one, load_more T.filling agent below none);
            others = λ i ne. load_same T.filling agent below none i ne ∙ T.others i ne;
          };
          passed = λ c l e.
              by_same c k
              (λ q. absurd (let owned = owned_here T.filling agent below none in let None-more : ⊥ = omega (arith, owned, eqb-true (get_or (set owners' k (j + 1)) k 0) 0 (rw q at e)) in None-more))
              (λ ne. t.passed c (omega arith) (rw (entry_same T.filling agent below none c ne) at e));
        }

  pub taken_all : {k left : ℕ} {owners' : List ℕ} → QuotaTakenTo U j quota k left owners owners' → (left ≡ 0) ⊎ (k ≡ U.m) → QuotaTaken U j quota owners owners'
  unfolding free_count
  taken_all {k} {left} {owners'} t end =
      record {
        left = left;
        took = t.took;
        full = ⊎_elim inl (λ e. inr (count_mono U.m (free owners') (λ c. not (U.easy j c)) (λ c l f. not_on (t.passed c (rw e l) f)))) end;
      }
