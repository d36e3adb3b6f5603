-- The search where no market is named: of every market, all owners and all prices that the lists can stand for. Its two loops, whatever the
-- scratch was lent as.
-- Assumes nothing.
use Prim.Native.Nat.{ℕ, suc, ◌+◌, ◌≤◌, ◌<◌}
use mathlib.Core.Bool.{true, false, not}
use mathlib.Core.List.{List}
use mathlib.Core.Path.{◌≡◌, refl, sym, ap, subst, ◌∙◌}
use native.Mathlib.Nat.{le_refl}
use native.Mathlib.Numerals.{add-one}
use native.Mathlib.Omega.{arith}
use lib.Bits.{bit_and}
use lib.Dec.{eqb}
use lib.ListN.{length, get_or, set}
use borrow.Author.Tests.{eq-eqb, ne_eqb, eqb-true}
use Rattle.finite.specs.Bits.{SetOf}
use Rattle.finite.proofs.Tests.{and_intro, and_no_left, and_no_right, not_on}
use Rattle.finite.proofs.Below.{by_less}
use Rattle.model.specs.Limits.{max_agents}
use Rattle.model.specs.Instance.{Instance}
use Rattle.model.specs.Step2b.{at_distance}
use Rattle.rings.specs.Line.{rings_before, is_reached, stands_at, byte_at, Filled, Started}
use Rattle.rings.specs.Search.{Searching, Answered}
use Rattle.rings.proofs.InLine.{line_next}
use Rattle.rings.proofs.Started.{unreached_by, filled_most, filled_room, filled_take, byte_taken, byte_kept, started_byte}
use Rattle.rings.proofs.Ringed.{in_next_ring, Ringed, ringed_start, ringed_next, ringed_skip, ringed_take, ringed_found, ringed_ring, ringed_ended}

-- the search has come to agent g of ring t
pub record Come (n : ℕ) (offers sums ups : List ℕ) (least t g end : ℕ) (lent scratch : List ℕ) : Type 0 where
  pub ringed : (I : Instance) (x p : ℕ → ℕ) → I.n ≡ n → Searching I x p offers sums ups least → Ringed I x p t g end lent scratch

-- ring t is in line, at the places from `from` on
pub record Rounds (n : ℕ) (offers sums ups : List ℕ) (least t from to : ℕ) (lent scratch : List ℕ) : Type 0 where
  pub come : Come n offers sums ups least t n to lent scratch
  pub begun : (I : Instance) (x p : ℕ → ℕ) → I.n ≡ n → Searching I x p offers sums ups least → from ≡ length (rings_before I.n (at_distance I x p) t)

-- the loop over distances, since the line held `first` agents: no ring before this one was empty, and the byte of its first agent tells its distance
pub record AtRing (n : ℕ) (offers sums ups : List ℕ) (least from to first : ℕ) (start scratch : List ℕ) : Type 0 where
  pub t : ℕ
  pub deep : t ≤ from
  pub ordered : from ≤ to
  pub told : from < to → byte_at scratch from ≡ t + 1
  pub filled : Filled n scratch to
  pub rounds : (lent : List ℕ) → Started n sums least lent start first → Rounds n offers sums ups least t from to lent scratch

-- the loop over agents, since the scratch was as before the ring whose agents get the byte `further`
pub record AtAgent (n : ℕ) (offers sums ups : List ℕ) (least from to further i end : ℕ) (before scratch : List ℕ) : Type 0 where
  pub ordered : to ≤ end
  pub filled : Filled n scratch end
  pub told : to < end → byte_at scratch to ≡ further
  pub come : (t : ℕ) → further ≡ t + 2 → (lent : List ℕ) → Rounds n offers sums ups least t from to lent before → Come n offers sums ups least (suc t) i end lent scratch

module _ {n : ℕ} {offers sums ups : List ℕ} {least : ℕ} where
  pub ring_start : {first : ℕ} {lent₀ start : List ℕ} → Started n sums least lent₀ start first → AtRing n offers sums ups least 0 first first start start
  unfolding rings_before
  ring_start T₀ =
      record {
        t = 0;
        deep = le_refl 0;
        ordered = omega arith;
        told = started_byte T₀;
        filled = T₀.filled;
        rounds =
            λ lent T. record {
              come = record { ringed = λ I x p en S. rw (← en) (ringed_start S (rw en T)) };
              begun = λ I x p en S. refl;
            };
      }

  -- a ring is done, and so is one agent more: in the terms of one lent scratch
  module _ {t from to : ℕ} {lent before : List ℕ} (R : Rounds n offers sums ups least t from to lent before) where
    whole : (I : Instance) (x p : ℕ → ℕ) → I.n ≡ n → Searching I x p offers sums ups least → Ringed I x p t I.n to lent before
    whole I x p en S = subst (λ k. Ringed I x p t k to lent before) (sym en) (R.come.ringed I x p en S)

    come_first : Come n offers sums ups least (suc t) 0 to lent before
    come_first = record { ringed = λ I x p en S. ringed_next S (whole I x p en S) }

    rounds_next : {end : ℕ} {scratch : List ℕ} → Come n offers sums ups least (suc t) n end lent scratch → Rounds n offers sums ups least (t + 1) to end lent scratch
    rounds_next C =
        record {
          come = rw (add-one t) C;
          begun = λ I x p en S. rw (add-one t) ((whole I x p en S).ended ∙ ap length (line_next I.n (at_distance I x p) t));
        }

    rounds_ended : from ≡ to → t ≤ n → Answered n offers sums ups least n 0 lent before
    rounds_ended none low =
        record {
          limit = le_refl n;
          searched = λ I x p en S. ringed_ended S (whole I x p en S) (R.begun I x p en S) none (rw en low) (sym en);
        }

    module _ {ring i end : ℕ} {scratch : List ℕ} (stands : SetOf n ring (stands_at before from to)) (l : i < n) (C : Come n offers sums ups least (suc t) i end lent scratch) where
      here : (I : Instance) (x p : ℕ → ℕ) → I.n ≡ n → Searching I x p offers sums ups least → SetOf I.n ring (at_distance I x p t)
      here I x p en S = ringed_ring S (whole I x p en S) (R.begun I x p en S) (rw en stands)

      come_skip : in_next_ring offers ring scratch i ≡ false → Come n offers sums ups least (suc t) (i + 1) end lent scratch
      come_skip e =
          record { ringed = λ I x p en S. rw (add-one i) (ringed_skip S (rw en l) (C.ringed I x p en S) (here I x p en S) e) }

      module _ (few : n ≤ max_agents) (F : Filled n scratch end) (room : end < max_agents) (e : in_next_ring offers ring scratch i ≡ true) where
        -- distance t + 1, and one more
        byte : t + 2 ≡ suc t + 1
        byte = omega arith

        come_take : get_or ups i 0 ≤ least → Come n offers sums ups least (suc t) (i + 1) (end + 1) lent (set (set scratch i (t + 2)) (max_agents + end) i)
        come_take low =
            record {
              ringed = λ I x p en S. rw (add-one i, byte) (ringed_take S (rw en l) (C.ringed I x p en S) (here I x p en S) (rw en few) F.size room e low);
            }

        come_found : t < n → least < get_or ups i 0 → Answered n offers sums ups least i (bit_and (get_or offers i 0) ring) lent (set (set scratch i (t + 2)) (max_agents + end) i)
        come_found below high =
            record {
              limit = omega arith;
              searched = λ I x p en S. rw byte (ringed_found S (rw en l) (C.ringed I x p en S) (here I x p en S) (rw en few) F.size room e (rw en below) high);
            }

  module _ {from to first : ℕ} {start before : List ℕ} (R : AtRing n offers sums ups least from to first start before) where
    pub agent_first : (further : ℕ) → AtAgent n offers sums ups least from to further 0 to before before
    agent_first further =
        record { ordered = le_refl to; filled = R.filled; told = λ l. absurd (omega arith); come = λ t e lent Q. come_first Q }

    module _ (some : from < to) where
      -- distances are below n
      pub ring_below : R.t < n
      ring_below = omega (arith, R.deep, filled_most R.filled)

      pub ring_further : {byte : ℕ} → byte ≡ byte_at before from → byte + 1 ≡ R.t + 2
      ring_further e = omega (arith, R.told some)

      pub ring_next : {further end : ℕ} {scratch : List ℕ} → further ≡ R.t + 2 → AtAgent n offers sums ups least from to further n end before scratch → AtRing n offers sums ups least to end first start scratch
      ring_next f A =
          record {
            t = R.t + 1;
            deep = omega (arith, R.deep);
            ordered = A.ordered;
            told = λ l. omega (arith, A.told l, f);
            filled = A.filled;
            rounds = λ lent T. let Q = R.rounds lent T in rounds_next Q (A.come R.t f lent Q);
          }

    pub ring_last : to ≤ from → {lent : List ℕ} → Started n sums least lent start first → Answered n offers sums ups least n 0 lent before
    ring_last l {lent} T =
        let none : from ≡ to = omega (arith, R.ordered) in
        rounds_ended (R.rounds lent T) none (omega (arith, R.deep, filled_most R.filled))

  module _ {from to further i end ring : ℕ} {before scratch : List ℕ} (stands : SetOf n ring (stands_at before from to)) (l : i < n) (A : AtAgent n offers sums ups least from to further i end before scratch) where
    agent_skip : in_next_ring offers ring scratch i ≡ false → AtAgent n offers sums ups least from to further (i + 1) end before scratch
    agent_skip e =
        record {
          ordered = A.ordered;
          filled = A.filled;
          told = A.told;
          come = λ t f lent Q. come_skip Q stands l (A.come t f lent Q) e;
        }

    pub agent_reached : eqb (get_or scratch i 0) 0 ≡ false → AtAgent n offers sums ups least from to further (i + 1) end before scratch
    unfolding in_next_ring is_reached
    agent_reached e = agent_skip (and_no_left _ (ap (λ b. not (not b)) e))

    pub agent_unwanted : bit_and (get_or offers i 0) ring ≡ 0 → AtAgent n offers sums ups least from to further (i + 1) end before scratch
    unfolding in_next_ring
    agent_unwanted e = agent_skip (and_no_right (not (is_reached scratch i)) (ap not (eq-eqb _ 0 e)))

    module _ (few : n ≤ max_agents) (some : bit_and (get_or offers i 0) ring ≡ 0 → ⊥) (unreached : eqb (get_or scratch i 0) 0 ≡ true) where
      zero : get_or scratch i 0 ≡ 0
      zero = eqb-true (get_or scratch i 0) 0 unreached

      next : in_next_ring offers ring scratch i ≡ true
      unfolding in_next_ring
      next = and_intro (not_on (unreached_by scratch i zero)) (ap not (ne_eqb _ 0 some))

      pub agent_room : end < max_agents
      agent_room = omega (arith, filled_room A.filled i l zero)

      -- the first of the ring has the byte, and so the ring
      still_told : 0 < further → to < end + 1 → byte_at (set (set scratch i further) (max_agents + end) i) to ≡ further
      still_told positive h =
          by_less to end
          (λ b. let e = A.told b in byte_kept A.filled further few l zero b (rw e positive) ∙ e)
          (λ b. let e : to ≡ end = omega (arith, A.ordered) in rw e (byte_taken A.filled few l zero))

      pub agent_take : 0 < further → get_or ups i 0 ≤ least → AtAgent n offers sums ups least from to further (i + 1) (end + 1) before (set (set scratch i further) (max_agents + end) i)
      agent_take positive low =
          record {
            ordered = omega (arith, A.ordered);
            filled = filled_take A.filled few l zero positive;
            told = still_told positive;
            come = λ t f lent Q. rw f (come_take Q stands l (A.come t f lent Q) few A.filled agent_room next low);
          }

      pub agent_found : {t : ℕ} {lent : List ℕ} → further ≡ t + 2 → Rounds n offers sums ups least t from to lent before → t < n → least < get_or ups i 0 → Answered n offers sums ups least i (bit_and (get_or offers i 0) ring) lent (set (set scratch i further) (max_agents + end) i)
      agent_found {t} {lent} f Q below high = rw f (come_found Q stands l (A.come t f lent Q) few A.filled agent_room next below high)
