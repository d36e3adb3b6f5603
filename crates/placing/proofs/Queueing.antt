-- The agents in the order in which they are served, as the lists have it: from the first, one agent more, to the last.
-- Assumes nothing.
use Prim.Native.Nat.{ℕ, ◌+◌, ◌*◌, ◌-◌, ◌≤◌, ◌<◌}
use mathlib.Core.Bool.{Bool, true, false, not}
use mathlib.Core.Logic.{⊎_elim, inl, inr}
use mathlib.Core.List.{List}
use mathlib.Core.Path.{◌≡◌, ap, ◌∙◌}
use native.Mathlib.Omega.{arith}
use lib.ListN.{length, get_or, set, replicate, length-set, length-replicate, get_or-replicate}
use lib.Seq.{get_or-set_same, get_or-set_other}
use borrow.Author.Tests.{eq-eqb, ne_eqb}
use Rattle.finite.specs.Sums.{count_to}
use Rattle.finite.proofs.Tests.{not_off}
use Rattle.finite.proofs.Sums.{sum_point}
use Rattle.finite.proofs.Where.{where_none}
use Rattle.finite.proofs.Counts.{count_not, count_none, count_change}
use Rattle.model.specs.Limits.{max_agents, max_chores}
use Rattle.model.specs.Instance.{Instance, cost}
use Rattle.model.specs.MaximinShare.{in_bundle, bundle_cost}
use Rattle.measures.proofs.Bearable.{difficult_count}
use Rattle.quotas.specs.Quotas.{Bears, places_in_all, AgentServed}
use Rattle.quotas.proofs.Serving.{places_fit, all_wait, served_on, all_served}
use Rattle.placing.specs.Filling.{free, free_count, load, PartList}
use Rattle.placing.specs.Queueing.{waits, EasyCounted, Served, NextAgent, Queue, AllServed}

-- where all pass, all are counted
count_all : (n : ℕ) (t : ℕ → Bool) → ((c : ℕ) → c < n → t c ≡ true) → count_to n t ≡ n
count_all n t h = omega (arith, count_not n t, count_none n (λ c. not (t c)) (λ c l. not_off (h c l)))

-- a list without owners
module _ (U : Instance) where
  none_filling : PartList U (replicate U.m 0)
  none_filling =
      record {
        size = length-replicate {A = ℕ} U.m 0;
        bounded = λ c l. rw (get_or-replicate {A = ℕ} U.m c 0 0 l) (omega arith);
      }

  none_free : free_count U.m (replicate U.m 0) ≡ U.m
  unfolding free_count free
  none_free = count_all U.m (free (replicate U.m 0)) (λ c l. eq-eqb (get_or (replicate U.m 0) c 0) 0 (get_or-replicate {A = ℕ} U.m c 0 0 l))

  none_load : (k : ℕ) → load U (replicate U.m 0) k ≡ 0
  unfolding load bundle_cost in_bundle
  none_load k = where_none U.m _ (cost U k) (λ c l. rw (get_or-replicate {A = ℕ} U.m c 0 0 l) (ne_eqb 0 (k + 1) (λ q. omega arith)))

module _ {U : Instance} {mu : ℕ → ℕ} (B : Bears U mu) (fits : U.n ≤ max_agents) where
  pub queue_start : {left : ℕ} {waiting : List Bool} {places owners : List ℕ} → left ≡ places_in_all U → waiting ≡ replicate max_agents true → places ≡ replicate max_agents 0 → owners ≡ replicate U.m 0 → Queue U mu left waiting places owners
  unfolding waits
  queue_start {left} {waiting} {places} {owners} whole all no_places no_owners =
      record {
        sized = ap length all ∙ length-replicate {A = Bool} max_agents true;
        slots = ap length no_places ∙ length-replicate {A = ℕ} max_agents 0;
        filling = rw no_owners (none_filling U);
        serving =
            rw (whole, no_owners, none_free U)
            (all_wait B
            (λ k l. ap (λ xs. get_or xs k false) all ∙ get_or-replicate {A = Bool} max_agents k true false (omega arith))
            (λ k l. ap (λ xs. get_or xs k 0) no_places ∙ get_or-replicate {A = ℕ} max_agents k 0 0 (omega arith))
            (λ k l. none_load U k));
      }

  module _ {left : ℕ} {waiting : List Bool} {places owners : List ℕ} (Q : Queue U mu left waiting places owners) where
    -- one of those with fewest easy chores is served
    module _ {counts : List ℕ} (C : EasyCounted U U.n counts) {j : ℕ} (N : NextAgent U.n counts waiting j) where
      next_greatest : (k : ℕ) → k < U.n → waits waiting k ≡ true → difficult_count U k ≤ difficult_count U j
      next_greatest k l w =
          omega (
            arith,
            N.fewest k l w,
            C.each k l,
            C.each j N.agent,
            count_not U.m (U.easy k),
            count_not U.m (U.easy j),
          )

      -- and then it no longer waits
      now_served : waits (set waiting j false) j ≡ false
      unfolding waits
      now_served = get_or-set_same waiting j false false (omega (arith, N.agent, Q.sized))

      still_waits : (k : ℕ) → (k ≡ j → ⊥) → waits (set waiting j false) k ≡ waits waiting k
      unfolding waits
      still_waits k ne = get_or-set_other waiting j k false false ne

      pub fewer_wait : count_to U.n (waits (set waiting j false)) < count_to U.n (waits waiting)
      fewer_wait = omega (arith, count_change (waits (set waiting j false)) (waits waiting) j N.agent now_served N.waiting (λ k _. still_waits k))

      module _ {r : ℕ} {places' owners' : List ℕ} (S : Served U j (mu j) left places owners places' owners' r) where
        turn : AgentServed U mu j S.mine (mu j - U.b * S.mine - S.taken.left) left (free_count U.m owners) (free_count U.m owners') (waits waiting) (waits (set waiting j false)) (λ k. get_or places k 0) (λ k. get_or places' k 0) (load U owners) (load U owners')
        turn =
            let T = S.taken.took in
            record {
              agent = N.agent;
              waiting = N.waiting;
              greatest = next_greatest;
              served = now_served;
              others_wait = λ k _. still_waits k;
              most = S.most;
              either = S.either;
              placed = ap (λ xs. get_or xs j 0) S.placed ∙ get_or-set_same places j S.mine 0 (omega (arith, N.agent, Q.slots));
              others_placed = λ k _ ne. ap (λ xs. get_or xs k 0) S.placed ∙ get_or-set_other places j k S.mine 0 ne;
              fewer = omega (arith, T.remain, T.fewer);
              loaded = omega (arith, T.remain, T.loaded);
              others_loaded = λ k _. T.others k;
              quota = omega (arith, T.remain, S.fits);
              full = ⊎_elim (λ e. inl (omega (arith, e, T.remain, S.fits))) inr S.taken.full;
            }

        pub queue_next : Queue U mu r (set waiting j false) places' owners'
        queue_next =
            record {
              sized = simp length-set Q.sized;
              slots = ap length S.placed ∙ simp length-set Q.slots;
              filling = S.taken.took.filling;
              serving = rw S.rest (served_on B Q.serving turn);
            }

    pub queue_end : U.m ≤ max_chores → ((k : ℕ) → k < U.n → waits waiting k ≡ false) → AllServed U mu places owners
    queue_end small nobody =
        record {
          roomy =
              record {
                slots = Q.slots;
                filling = Q.filling;
                room = all_served B Q.serving nobody;
                few = λ i l. omega (arith, sum_point (λ k. get_or places k 0) i l, Q.serving.given, places_fit B);
              };
          each = Q.serving.within;
        }
