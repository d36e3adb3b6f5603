-- The scratch while the line is made: places and agents are as many, and the line of those of least sum.
-- Assumes nothing.
use Prim.Native.Nat.{ℕ, suc, ◌+◌, ◌≤◌, ◌<◌}
use mathlib.Core.Bool.{Bool, true, false, not, cond}
use mathlib.Core.List.{List}
use mathlib.Core.Path.{◌≡◌, refl, sym, ap, ◌∙◌}
use native.Mathlib.Nat.{le_refl}
use native.Mathlib.Numerals.{add-one}
use native.Mathlib.Omega.{arith}
use lib.Dec.{eqb}
use lib.ListN.{length, get_or, set, length-set}
use lib.Seq.{get_or-set_same, get_or-set_other}
use borrow.Author.Tests.{eq-eqb, ne_eqb, eqb-true}
use Rattle.finite.specs.Sums.{count_to}
use Rattle.finite.specs.Lists.{passing}
use Rattle.finite.proofs.Tests.{clash, fails_of, and_elim, cond_false}
use Rattle.finite.proofs.Below.{none_below, by_top, by_less}
use Rattle.finite.proofs.Sums.{sum_zero, sum_next, sum_cong}
use Rattle.finite.proofs.Counts.{count_le, count_full, count_change}
use Rattle.finite.proofs.Passing.{pass_cong, pass_at}
use Rattle.model.specs.Limits.{max_agents, scratch_size}
use Rattle.rings.specs.Line.{rings_before, line_to, Lined, starts, is_reached, byte_at, Filled, Started}
use Rattle.rings.proofs.InLine.{in_here, in_cases, line_skip, lined_skip, lined_take, at_agent, at_place, at_other, longer}

-- the byte of an agent
pub reached_by : (scratch : List ℕ) (i v : ℕ) → get_or scratch i 0 ≡ v → 0 < v → is_reached scratch i ≡ true
unfolding is_reached
reached_by scratch i v e l = ap not (ne_eqb (get_or scratch i 0) 0 (omega arith))

pub unreached_by : (scratch : List ℕ) (i : ℕ) → get_or scratch i 0 ≡ 0 → is_reached scratch i ≡ false
unfolding is_reached
unreached_by scratch i e = ap not (eq-eqb (get_or scratch i 0) 0 e)

reached_same : (xs ys : List ℕ) (i : ℕ) → get_or xs i 0 ≡ get_or ys i 0 → is_reached xs i ≡ is_reached ys i
unfolding is_reached
reached_same xs ys i e = ap (λ v. not (eqb v 0)) e

-- as many places as agents

module _ {n : ℕ} {scratch : List ℕ} {end : ℕ} (F : Filled n scratch end) where
  pub filled_most : end ≤ n
  filled_most = rw F.counted (count_le n (is_reached scratch))

  -- while somebody is not reached there is a place
  pub filled_room : (i : ℕ) → i < n → get_or scratch i 0 ≡ 0 → end < n
  filled_room i l e =
      by_less end n (λ h. h)
      (λ h. absurd (clash (count_full n (is_reached scratch) (omega (arith, filled_most, F.counted)) i l) (unreached_by scratch i e)))

  pub filled_take : {i v : ℕ} → n ≤ max_agents → i < n → get_or scratch i 0 ≡ 0 → 0 < v → Filled n (set (set scratch i v) (max_agents + end) i) (end + 1)
  filled_take {i} {v} few l e positive =
      let room = filled_room i l e in
      let known : i < max_agents = omega arith in
      let fits : end < max_agents = omega arith in
      let after = set (set scratch i v) (max_agents + end) i in
      record {
        size = length-set (set scratch i v) (max_agents + end) i ∙ length-set scratch i v ∙ F.size;
        counted =
            ap (λ k. k + 1) F.counted
            ∙ sym (count_change (is_reached scratch) (is_reached after) i l (unreached_by scratch i e)
            (reached_by after i v (at_agent scratch i end v F.size known fits) positive)
            (λ c h p. sym (reached_same after scratch c (at_other scratch i end v F.size known fits c p (omega arith)))));
        known =
            λ k h. by_less k end
            (λ b. rw (at_other scratch i end v F.size known fits (max_agents + k) (omega arith) (omega arith)) (F.known k b))
            (λ b. let q : k ≡ end = omega arith in rw (q, at_place scratch i end v F.size known fits) l);
      }

  -- the byte of whoever takes the place, and of those who have one: it was not 0
  pub byte_taken : {i v : ℕ} → n ≤ max_agents → i < n → get_or scratch i 0 ≡ 0 → byte_at (set (set scratch i v) (max_agents + end) i) end ≡ v
  unfolding byte_at
  byte_taken {i} {v} few l e =
      let known : i < max_agents = omega arith in
      let room : end < max_agents = omega (arith, filled_room i l e) in
      rw (at_place scratch i end v F.size known room) (at_agent scratch i end v F.size known room)

  pub byte_kept : {i k : ℕ} (v : ℕ) → n ≤ max_agents → i < n → get_or scratch i 0 ≡ 0 → k < end → 0 < byte_at scratch k → byte_at (set (set scratch i v) (max_agents + end) i) k ≡ byte_at scratch k
  unfolding byte_at
  byte_kept {i} {k} v few l e h positive =
      let known : i < max_agents = omega arith in
      let room : end < max_agents = omega (arith, filled_room i l e) in
      let agent = get_or scratch (max_agents + k) 0 in
      let other = at_other scratch i end v F.size known room in
      rw (other (max_agents + k) (omega arith) (omega arith))
      (other agent (λ q. let z : get_or scratch agent 0 ≡ 0 = rw q e in omega arith) (omega (arith, F.known k h)))

pub filled_none : {scratch : List ℕ} → length scratch ≡ scratch_size → Filled 0 scratch 0
unfolding count_to
filled_none e = record { size = e; counted = sym (sum_zero _); known = λ k l. none_below l }

-- one agent more, whose byte is cleared
filled_clear : {k : ℕ} {scratch : List ℕ} {end : ℕ} → k < max_agents → Filled k scratch end → Filled (k + 1) (set scratch k 0) end
unfolding count_to
filled_clear {k} {scratch} l F =
    let cleared : get_or (set scratch k 0) k 0 ≡ 0 = get_or-set_same scratch k 0 0 (omega (arith, F.size)) in
    record {
      size = length-set scratch k 0 ∙ F.size;
      counted =
          F.counted
          ∙ sum_cong k (λ c h. ap (λ b. cond b 1 0) (sym (reached_same (set scratch k 0) scratch c (get_or-set_other scratch k c 0 0 (omega arith)))))
          ∙ omega (arith, sum_next k (λ c. cond (is_reached (set scratch k 0) c) 1 0), cond_false {A = ℕ} 1 0 (unreached_by (set scratch k 0) k cleared));
      known = λ q h. rw (get_or-set_other scratch k (max_agents + q) 0 0 (omega arith)) (omega (arith, F.known q h));
    }

lined_clear : {k : ℕ} {ring : ℕ → ℕ → Bool} {lent scratch : List ℕ} → length scratch ≡ scratch_size → k < max_agents → Lined k ring 0 k lent scratch → Lined (suc k) ring 0 k lent (set scratch k 0)
unfolding line_to rings_before
lined_clear {k} {ring} {scratch = scratch} sized few L =
    let other : (b : ℕ) → (b ≡ k → ⊥) → get_or (set scratch k 0) b 0 ≡ get_or scratch b 0 = λ b p. get_or-set_other scratch k b 0 0 p in
    record {
      distance = λ i s l a e. by_top l
          (λ q. absurd (in_cases ring 0 k i a (λ s h. none_below h) (λ r h. omega arith)))
          (λ h. other i (omega arith) ∙ L.distance i s h a e);
      unreached = λ i l a. by_top l
          (λ q. rw q (get_or-set_same scratch k 0 0 (omega arith)))
          (λ h. other i (omega arith) ∙ L.unreached i h a);
      place = λ q l. other (max_agents + q) (omega arith) ∙ L.place q l;
      spare = λ b l h. other b (omega arith) ∙ L.spare b (omega arith) h;
      rest = λ b l. other b (omega arith) ∙ L.rest b l;
    }

module _ (sums : List ℕ) (least : ℕ) where
  starts_once : (s i : ℕ) → starts sums least s i ≡ true → starts sums least 0 i ≡ true → s ≡ 0
  unfolding starts
  starts_once s i a b = eqb-true s 0 (and_elim (eqb s 0) (eqb (get_or sums i 0) least) a).0

  pub starts_at : (i : ℕ) → starts sums least 0 i ≡ eqb (get_or sums i 0) least
  unfolding starts
  starts_at i = refl

  line_wider : (k : ℕ) → line_to k (starts sums least) 0 k ≡ line_to (suc k) (starts sums least) 0 k
  unfolding line_to rings_before
  line_wider k = refl

-- The line of those of least sum, among the first k agents.
module _ {sums : List ℕ} {least : ℕ} {lent : List ℕ} where
  pub started_none : {scratch : List ℕ} → length scratch ≡ scratch_size → scratch ≡ lent → Started 0 sums least lent scratch 0
  unfolding line_to rings_before passing
  started_none e same =
      record {
        filled = filled_none e;
        lined =
            record {
              distance = λ i s l. none_below l;
              unreached = λ i l. none_below l;
              place = λ k l. none_below l;
              spare = λ b l h. ap (λ xs. get_or xs b 0) same;
              rest = λ b l. ap (λ xs. get_or xs b 0) same;
            };
        ended = refl;
      }

  module _ {k end : ℕ} {scratch : List ℕ} (few : k < max_agents) (S : Started k sums least lent scratch end) where
    cleared : Lined (suc k) (starts sums least) 0 k lent (set scratch k 0)
    cleared = lined_clear S.filled.size few S.lined

    so_far : end ≡ length (line_to (suc k) (starts sums least) 0 k)
    so_far = S.ended ∙ ap length (line_wider sums least k)

    pub started_skip : eqb (get_or sums k 0) least ≡ false → Started (k + 1) sums least lent (set scratch k 0) end
    started_skip e =
        record {
          filled = filled_clear few S.filled;
          lined = rw add-one (lined_skip (starts_at sums least k ∙ e) cleared);
          ended = rw add-one (so_far ∙ ap length (line_skip (suc k) (starts sums least) 0 k (starts_at sums least k ∙ e)));
        }

    pub started_take : eqb (get_or sums k 0) least ≡ true → Started (k + 1) sums least lent (set (set (set scratch k 0) k 1) (max_agents + end) k) (end + 1)
    started_take e =
        let F = filled_clear few S.filled in
        let zero : get_or (set scratch k 0) k 0 ≡ 0 = get_or-set_same scratch k 0 0 (omega (arith, S.filled.size)) in
        let few' : k + 1 ≤ max_agents = omega arith in
        let room : end < k + 1 = filled_room F k (omega arith) zero in
        let here = starts_at sums least k ∙ e in
        record {
          filled = filled_take F few' (omega arith) zero (omega arith);
          lined = rw add-one (lined_take (suc k) (starts sums least) here so_far (starts_once sums least) F.size (rw add-one at few') (le_refl _) (omega arith) cleared);
          ended = rw (add-one k) (longer (suc k) (starts sums least) here so_far);
        }

-- the first in line are at distance 0
pub started_byte : {n end : ℕ} {sums : List ℕ} {least : ℕ} {lent scratch : List ℕ} → Started n sums least lent scratch end → 0 < end → byte_at scratch 0 ≡ 1
unfolding byte_at line_to rings_before
started_byte {n} {sums = sums} {least = least} S l =
    let there : 0 < length (passing n (starts sums least 0)) = rw (← S.ended) l in
    let p = pass_at n (starts sums least 0) 0 there in
    rw (S.lined.place 0 there) (S.lined.distance _ 0 p.below (in_here (starts sums least) 0 n _ p.passes p.below) p.passes)

-- Where those of least sum are the ring at distance 0, this is its line.
module _ (n : ℕ) (sums : List ℕ) (least : ℕ) (ring : ℕ → ℕ → Bool) (same : (i : ℕ) → i < n → eqb (get_or sums i 0) least ≡ ring 0 i) where
  start_line : line_to n (starts sums least) 0 n ≡ line_to n ring 0 n
  unfolding line_to rings_before
  start_line = pass_cong n (λ i l. starts_at sums least i ∙ same i l)

  module _ {lent scratch : List ℕ} {end : ℕ} (S : Started n sums least lent scratch end) where
    pub started_ended : end ≡ length (line_to n ring 0 n)
    started_ended = S.ended ∙ ap length start_line

    pub started_lined : ((s i : ℕ) → ring s i ≡ true → ring 0 i ≡ true → s ≡ 0) → Lined n ring 0 n lent scratch
    started_lined single =
        let L = S.lined in
        record {
          distance =
              λ i s l a e. in_cases ring 0 n i a (λ u h. none_below h)
              (λ r h. let here = starts_at sums least i ∙ same i l ∙ r in rw (single s i e r) (L.distance i 0 l (in_here (starts sums least) 0 n i here l) here));
          unreached = λ i l a. L.unreached i l (fails_of (λ b. in_cases (starts sums least) 0 n i b (λ u h. none_below h) (λ r h. in_here ring 0 n i (sym (starts_at sums least i ∙ same i l) ∙ r) l)) a);
          place = λ k l. rw (← start_line) (L.place k (rw start_line l));
          spare = L.spare;
          rest = λ b l. L.rest b (rw start_line l);
        }
