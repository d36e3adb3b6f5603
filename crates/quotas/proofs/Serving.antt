-- Quotas: served in the order of their difficult marks, all agents find their quotas within their measures, and at the end no chore without an owner
-- lacks a place.
-- Assumes nothing.
use Prim.Native.Nat.{ℕ, zero, suc, ◌+◌, ◌*◌, ◌-◌, ◌/◌, ◌≤◌, ◌<◌}
use mathlib.Core.Bool.{Bool, true, false, cond, not}
use mathlib.Core.Logic.{⊎_elim}
use mathlib.Core.Path.{◌≡◌, sym, ap, ◌∙◌}
use native.Mathlib.Nat.{le_trans, mul-add, mul-zero, mul-le-mul_left, le_of_mul-le-mul_left, lt_of_mul-lt-mul_left, mul-div-le, lt-mul-div-succ, div-le_of_le-mul}
use native.Mathlib.Omega.{arith}
use Rattle.finite.specs.Sums.{sum_to, sum_where}
use Rattle.finite.proofs.Tests.{by_test, clash}
use Rattle.finite.proofs.Below.{by_same}
use Rattle.finite.proofs.Sums.{sum_mono, sum_add, sum_scale, sum_const, sum_at_most, sum_none, sum_change}
use Rattle.finite.proofs.Where.{where_all, where_none, where_scale, where_change}
use Rattle.finite.proofs.Counts.{count_le, count_not}
use Rattle.model.specs.Instance.{Instance}
use Rattle.measures.proofs.Bearable.{difficult_count, easy_count, whole_cost_lem}
use Rattle.quotas.specs.Quotas.{Bears, difficult_in_all, places_in_all, Serving, AgentServed}

-- q - 1 times more of each, without a difference
spread : {q u v : ℕ} → 0 < q → u ≤ v → q * u + v ≤ q * v + u
spread {q = zero} some h = absurd (let e : ⊥ = omega arith in e)
spread {q = suc p} {u} {v} some h = omega (arith, mul-le-mul_left p h)

module _ {U : Instance} {mu : ℕ → ℕ} (B : Bears U mu) where
  -- the places are the difficult marks of an agent on the average, rounded down
  few_places : U.n * places_in_all U ≤ difficult_in_all U
  few_places =
      let down : places_in_all U ≤ difficult_in_all U / U.n = omega arith in
      le_trans (mul-le-mul_left U.n down) (mul-div-le (difficult_in_all U) U.n)

  many_places : difficult_in_all U < U.n * places_in_all U + U.n
  many_places = omega (arith, lt-mul-div-succ (difficult_in_all U) B.some)

  pub places_fit : places_in_all U ≤ U.m
  places_fit = div-le_of_le-mul U.n (sum_at_most U.n U.m (λ k l. count_le U.m _))

  -- a measure, times n, is all chores and what the difficult ones cost more
  bears_all : (k : ℕ) → k < U.n → U.m + U.b * difficult_count U k ≤ U.n * mu k + difficult_count U k
  bears_all k l =
      let easy : U.a * easy_count U k ≡ easy_count U k = rw B.unit (omega arith) in
      omega (arith, easy, whole_cost_lem U k, (B.each k l).costs, count_not U.m (U.easy k))

  -- and so for all agents together
  all_bear : U.n * U.m + U.b * difficult_in_all U ≤ U.n * sum_to U.n mu + difficult_in_all U
  all_bear =
      let n = U.n in
      let D = difficult_count U in
      omega (arith, sum_mono n bears_all, sum_add n (λ k. U.m) (λ k. U.b * D k), sum_add n (λ k. n * mu k) D, sum_const n U.m, sum_scale n U.b D, sum_scale n n mu)

  -- nobody has been served
  pub all_wait : {waits : ℕ → Bool} {places loads : ℕ → ℕ} → ((k : ℕ) → k < U.n → waits k ≡ true) → ((k : ℕ) → k < U.n → places k ≡ 0) → ((k : ℕ) → k < U.n → loads k ≡ 0) → Serving U mu waits (places_in_all U) U.m places loads
  all_wait {waits} {places} {loads} wait none idle =
      let n = U.n in
      let X = places_in_all U in
      let S = difficult_in_all U in
      let in_all = where_all n waits (difficult_count U) wait in
      record {
        ordered = λ k l _ ll _ served. absurd (clash (wait l ll) served);
        room =
            let bound : n * (U.m + U.b * X) ≤ n * (X + sum_to n mu) = omega (arith, all_bear, spread {q = U.b} {u = n * X} {v = S} B.heavy few_places) in
            rw (where_all n waits mu wait) (le_of_mul-le-mul_left bound B.some);
        few = rw in_all few_places;
        enough = rw in_all (omega (arith, B.some));
        given = omega (arith, sum_none n none);
        within = λ k l. rw (none k l, idle k l, mul-zero U.b) (omega arith);
        no_places = λ k l _. none k l;
        no_load = λ k l _. idle k l;
      }

  -- one agent's turn
  module _ {j mine taken left free free' : ℕ} {waits waits' : ℕ → Bool} {places places' loads loads' : ℕ → ℕ} (s : Serving U mu waits left free places loads) (t : AgentServed U mu j mine taken left free free' waits waits' places places' loads loads') where
    -- of those who waited, agent j no longer does
    one_less : (f : ℕ → ℕ) → sum_where U.n waits f ≡ sum_where U.n waits' f + f j
    one_less f = where_change waits' waits f j t.agent t.served t.waiting t.others_wait

    -- a measure of places is enough for its agent's difficult marks
    worth : mine ≡ mu j / U.b → difficult_count U j ≤ U.n * mine
    worth e = rw e (B.each j t.agent).difficult

    parts : (w : ℕ) → w * (left - mine) + w * mine ≡ w * left
    parts w = sym (mul-add w (left - mine) mine) ∙ ap (λ x. w * x) (omega (arith, t.most))

    none_left : mine ≡ left → left - mine ≡ 0
    none_left e = omega arith

    few_more : U.n * (left - mine) ≤ sum_where U.n waits' (difficult_count U)
    few_more =
        let n = U.n in
        ⊎_elim
        (λ e. omega (arith, parts n, worth e, s.few, one_less (difficult_count U)))
        (λ e. rw (none_left e, mul-zero n) (omega arith))
        t.either

    enough_more : difficult_in_all U + U.n * (left - mine) < sum_where U.n waits' (difficult_count U) + U.n * places_in_all U + U.n
    enough_more =
        let n = U.n in
        ⊎_elim
        (λ e. omega (arith, parts n, worth e, s.enough, one_less (difficult_count U)))
        (λ e. rw (none_left e, mul-zero n) (omega (arith, many_places)))
        t.either

    -- agent j has no more difficult marks than those served, and those who still wait can bear all chores
    key : (k : ℕ) → k < U.n → difficult_count U j + cond (waits' k) (U.b * difficult_count U k) 0 ≤ difficult_count U k + cond (waits' k) (U.n * mu k) 0
    key k l =
        by_test (waits' k)
        (λ e. rw e (omega (arith, bears_all k l, count_le U.m (λ c. not (U.easy j c)))))
        (λ e. rw e (omega (arith, behind e)))
      where
        behind : waits' k ≡ false → difficult_count U j ≤ difficult_count U k
        behind e = by_same k j (λ q. rw q (omega arith)) (λ ne. s.ordered j k t.agent l t.waiting (sym (t.others_wait k l ne) ∙ e))

    key_sum : U.n * difficult_count U j + U.b * sum_where U.n waits' (difficult_count U) ≤ difficult_in_all U + U.n * sum_where U.n waits' mu
    unfolding sum_where
    key_sum =
        let n = U.n in
        let D = difficult_count U in
        omega (
          arith,
          sum_mono n key,
          sum_add n (λ k. D j) (λ k. cond (waits' k) (U.b * D k) 0),
          sum_add n D (λ k. cond (waits' k) (n * mu k) 0),
          sum_const n (D j),
          where_scale n U.b waits' D,
          where_scale n n waits' mu,
        )

    room_more : free' + U.b * (left - mine) ≤ places_in_all U + sum_where U.n waits' mu
    room_more =
        let q = U.b in
        let n = U.n in
        let X = places_in_all U in
        let M = sum_where n waits' mu in
        let x = left - mine in
        ⊎_elim
        (λ e. omega (arith, e, parts q, t.fewer, s.room, one_less mu))
        (λ e.
        let slack = spread {q = q} {u = n * x} {v = sum_where n waits' (difficult_count U)} B.heavy few_more in
        let bound : n * (difficult_count U j + q * x) < n * (X + M + 1) = omega (arith, slack, key_sum, enough_more) in
        omega (arith, e, lt_of_mul-lt-mul_left n bound))
        t.full

    pub served_on : Serving U mu waits' (left - mine) free' places' loads'
    served_on =
        let n = U.n in
        record {
          ordered = λ k l lk ll wait served.
              by_same l j
              (λ q. rw q (t.greatest k lk (waited k lk wait)))
              (λ ne. s.ordered k l lk ll (waited k lk wait) (sym (t.others_wait l ll ne) ∙ served));
          room = room_more;
          few = few_more;
          enough = enough_more;
          given =
              let before : places j ≡ 0 = s.no_places j t.agent t.waiting in
              omega (arith, s.given, t.most, t.placed, sum_change {f = places'} {g = places} j t.agent t.others_placed);
          within = λ k l.
              by_same k j
              (λ q. rw (q, t.placed, t.loaded, s.no_load j t.agent t.waiting) (omega (arith, t.quota)))
              (λ ne. rw (t.others_placed k l ne, t.others_loaded k l ne) (s.within k l));
          no_places = λ k l wait. t.others_placed k l (other k wait) ∙ s.no_places k l (waited k l wait);
          no_load = λ k l wait. t.others_loaded k l (other k wait) ∙ s.no_load k l (waited k l wait);
        }
      where
        other : (k : ℕ) → waits' k ≡ true → k ≡ j → ⊥
        other k wait e = clash (rw e at wait) t.served

        waited : (k : ℕ) → k < U.n → waits' k ≡ true → waits k ≡ true
        waited k l wait = sym (t.others_wait k l (other k wait)) ∙ wait

  -- everybody has been served: each chore without an owner has a place
  pub all_served : {left free : ℕ} {waits : ℕ → Bool} {places loads : ℕ → ℕ} → Serving U mu waits left free places loads → ((k : ℕ) → k < U.n → waits k ≡ false) → free ≤ sum_to U.n places
  all_served {left} {free} {waits} {places} s none =
      let n = U.n in
      let zero_left : left ≤ 0 = le_of_mul-le-mul_left (omega (arith, s.few, where_none n waits (difficult_count U) none)) B.some in
      let nothing : left ≡ 0 = omega arith in
      omega (arith, nothing, s.given, s.room, where_none n waits mu none)
