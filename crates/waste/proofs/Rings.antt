-- Laws of the distances: how a ring spreads, and what the rings say of connected agents.
-- Assumes nothing.
use Prim.Native.Nat.{ℕ, suc, ◌+◌, ◌≤◌, ◌<◌}
use mathlib.Core.Bool.{Bool, true, false, cond, ◌&&◌, ◌||◌}
use mathlib.Core.List.{List}
use mathlib.Core.Path.{◌≡◌, refl, sym, ap, ◌∙◌}
use native.Mathlib.Nat.{le_refl}
use native.Mathlib.Numerals.{add-one}
use native.Mathlib.Omega.{arith}
use lib.Dec.{eqb, leb, ltb}
use lib.ListN.{length, get_or, set, length-set}
use lib.Seq.{get_or-set_same, get_or-set_other}
use borrow.Author.Tests.{eqb-true, eq-eqb, ne_eqb, leb-true, le-leb, lt-leb, lt-ltb, le-ltb}
use Rattle.finite.specs.Search.{any_below}
use Rattle.finite.proofs.Tests.{by_test, clash, not_yes, and_elim, and_intro, and_no_left, and_no_right, cond_true, cond_false}
use Rattle.finite.proofs.Below.{by_same, by_less}
use Rattle.finite.proofs.Search.{any_next, any_elim, any_intro}
use Rattle.model.specs.Limits.{max_agents}
use Rattle.model.specs.Instance.{Instance}
use Rattle.welfare.specs.Waste.{burdened, passes_on, connected}
use Rattle.welfare.proofs.Connected.{connected_zero, connected_step, connected_mono, connected_added}
use Rattle.waste.specs.Rings.{no_distance, nearer, Spread, Rings}

-- one agent's distance

pub nearer_off : (next d : ℕ) {linked : Bool} → linked ≡ false → nearer next linked d ≡ d
unfolding nearer
nearer_off next d e = cond_false next d (and_no_right (eqb d no_distance) e)

pub nearer_kept : (next : ℕ) {d : ℕ} (linked : Bool) → (d ≡ no_distance → ⊥) → nearer next linked d ≡ d
unfolding nearer
nearer_kept next {d} linked h = cond_false next d (and_no_left linked (ne_eqb d no_distance h))

pub nearer_on : (next : ℕ) {d : ℕ} {linked : Bool} → d ≡ no_distance → linked ≡ true → nearer next linked d ≡ next
unfolding nearer
nearer_on next {d} e h = cond_true next d (and_intro (eq-eqb d no_distance e) h)

-- linked once, and then once more
nearer_again : {next : ℕ} → (next ≡ no_distance → ⊥) → (a b : Bool) (d : ℕ) → nearer next b (nearer next a d) ≡ nearer next (a || b) d
nearer_again {next} ne true b d =
    by_same d no_distance
    (λ e. ap (nearer next b) (nearer_on next e refl) ∙ nearer_kept next b ne ∙ sym (nearer_on next e refl))
    (λ h. ap (nearer next b) (nearer_kept next true h) ∙ nearer_kept next b h ∙ sym (nearer_kept next true h))
nearer_again {next} ne false b d = ap (nearer next b) (nearer_off next d refl)

-- the ring that is spreading does not change
pub nearer_at : {t : ℕ} → t < no_distance → (linked : Bool) (d : ℕ) → eqb (nearer (t + 1) linked d) t ≡ eqb d t
nearer_at {t} l true d =
    by_same d no_distance
    (λ e. ap (λ v. eqb v t) (nearer_on (t + 1) e refl) ∙ ne_eqb (t + 1) t (λ q. omega arith) ∙ sym (ne_eqb d t (λ q. omega arith)))
    (λ h. ap (λ v. eqb v t) (nearer_kept (t + 1) true h))
nearer_at {t} l false d = ap (λ v. eqb v t) (nearer_off (t + 1) d refl)

-- all agents' distances

module _ {n next : ℕ} where
  pub spread_none : {linked : ℕ → Bool} {old : List ℕ} → length old ≡ max_agents → ((i : ℕ) → i < n → linked i ≡ false) → Spread n next linked old old
  spread_none {old = old} size none =
      record { size = size; each = λ i l. sym (nearer_off next (get_or old i 0) (none i l)) }

  pub spread_cong : {p q : ℕ → Bool} {old new : List ℕ} → ((i : ℕ) → i < n → p i ≡ q i) → Spread n next p old new → Spread n next q old new
  spread_cong {old = old} e s =
      record { size = s.size; each = λ i l. s.each i l ∙ ap (λ b. nearer next b (get_or old i 0)) (e i l) }

  -- one spread after another
  pub spread_then : (next ≡ no_distance → ⊥) → {p q : ℕ → Bool} {old mid new : List ℕ} → Spread n next p old mid → Spread n next q mid new → Spread n next (λ i. p i || q i) old new
  spread_then ne {p} {q} {old} s r =
      record {
        size = r.size;
        each = λ i l. r.each i l ∙ ap (nearer next (q i)) (s.each i l) ∙ nearer_again ne (p i) (q i) (get_or old i 0);
      }

  -- as a loop over k takes them one by one
  pub spread_next : (next ≡ no_distance → ⊥) → (t : ℕ → ℕ → Bool) {k : ℕ} {old mid new : List ℕ} → Spread n next (λ i. any_below k (t i)) old mid → Spread n next (λ i. t i k) mid new → Spread n next (λ i. any_below (k + 1) (t i)) old new
  spread_next ne t {k} s r = spread_cong (λ i l. sym (any_next k (t i))) (spread_then ne s r)

  -- one agent alone may be linked: it has a distance already, is not linked, or is given one

  module _ {linked : ℕ → Bool} {old : List ℕ} (size : length old ≡ max_agents) (i : ℕ) (others : (k : ℕ) → (k ≡ i → ⊥) → linked k ≡ false) where
    pub spread_kept : (get_or old i 0 ≡ no_distance → ⊥) → Spread n next linked old old
    spread_kept h =
        record {
          size = size;
          each = λ k l.
              by_same k i
              (λ q. sym (nearer_kept next (linked k) (rw q h)))
              (λ ne. sym (nearer_off next (get_or old k 0) (others k ne)));
        }

    pub spread_unlinked : linked i ≡ false → Spread n next linked old old
    spread_unlinked h = spread_none size (λ k l. by_same k i (λ q. rw q h) (others k))

    pub spread_given : i < max_agents → get_or old i 0 ≡ no_distance → linked i ≡ true → Spread n next linked old (set old i next)
    spread_given below h link =
        record {
          size = simp length-set size;
          each = λ k l.
              by_same k i
              (λ q. rw (q, get_or-set_same old i next 0 (omega (arith, size)), nearer_on next h link))
              (λ ne. get_or-set_other old i k next 0 ne ∙ sym (nearer_off next (get_or old k 0) (others k ne)));
        }

-- the rings

module _ (I : Instance) (x : ℕ → ℕ) where
  pub rings_first : {distances : List ℕ} → length distances ≡ max_agents → ((i : ℕ) → i < I.n → get_or distances i 0 ≡ cond (burdened I x i) 0 no_distance) → Rings I x 0 distances
  rings_first {distances} size each =
      record {
        size = size;
        within = λ r i l below.
            let z : r ≡ 0 = omega arith in
            rw (z, connected_zero I x i, each i below) (first_leb (burdened I x i));
        beyond = λ i below l. each i below ∙ first_beyond (burdened I x i) (rw (each i below) at l);
      }
    where
      first_leb : (b : Bool) → leb (cond b 0 no_distance) 0 ≡ b
      first_leb true = refl
      first_leb false = refl

      first_beyond : (b : Bool) → 0 < cond b 0 no_distance → cond b 0 no_distance ≡ no_distance
      first_beyond true l = absurd (omega arith)
      first_beyond false l = refl

-- agent i can pass an easy chore on to agent j, who is at distance t
unfoldable pub ring_link : Instance → (ℕ → ℕ) → List ℕ → ℕ → ℕ → ℕ → Bool
ring_link I x distances t i j = eqb (get_or distances j 0) t && passes_on I x i j

module _ (I : Instance) (x : ℕ → ℕ) (distances : List ℕ) (t i j : ℕ) where
  pub ring_link_on : eqb (get_or distances j 0) t ≡ true → passes_on I x i j ≡ ring_link I x distances t i j
  unfolding ring_link
  ring_link_on e = rw e

  pub ring_link_off : eqb (get_or distances j 0) t ≡ false → ring_link I x distances t i j ≡ false
  unfolding ring_link
  ring_link_off e = and_no_left (passes_on I x i j) e

-- while ring t spreads, its agents stay the same
pub spread_ring : {n t : ℕ} {linked : ℕ → Bool} {old new : List ℕ} → t < no_distance → Spread n (t + 1) linked old new → (j : ℕ) → j < n → eqb (get_or old j 0) t ≡ eqb (get_or new j 0) t
spread_ring {t = t} {linked} {old} l s j below =
    sym (ap (λ v. eqb v t) (s.each j below) ∙ nearer_at l (linked j) (get_or old j 0))

module _ {I : Instance} {x : ℕ → ℕ} {t : ℕ} {old new : List ℕ} (rings : Rings I x t old) (small : t + 1 < no_distance) (s : Spread I.n (t + 1) (λ i. any_below I.n (ring_link I x old t i)) old new) where
  linked : ℕ → Bool
  linked i = any_below I.n (ring_link I x old t i)

  -- the agents of the rings so far keep their distance
  near : (i : ℕ) → i < I.n → get_or old i 0 ≤ t → get_or new i 0 ≡ get_or old i 0
  near i l h =
      s.each i l ∙ nearer_kept (t + 1) (any_below I.n (ring_link I x old t i)) (λ e. omega arith)

  far_linked : (i : ℕ) → i < I.n → t < get_or old i 0 → linked i ≡ true → get_or new i 0 ≡ t + 1
  unfolding linked
  far_linked i l h e = s.each i l ∙ nearer_on (t + 1) (rings.beyond i l h) e

  far_unlinked : (i : ℕ) → i < I.n → t < get_or old i 0 → linked i ≡ false → get_or new i 0 ≡ no_distance
  unfolding linked
  far_unlinked i l h e = s.each i l ∙ nearer_off (t + 1) (get_or old i 0) e ∙ rings.beyond i l h

  -- an agent that is linked to the last ring is connected by one step more
  link_connected : (i : ℕ) → linked i ≡ true → connected I x (suc t) i ≡ true
  unfolding linked ring_link
  link_connected i e =
      let r = any_elim I.n (ring_link I x old t i) e in
      let j = r.index in
      let both = and_elim (eqb (get_or old j 0) t) (passes_on I x i j) r.passes in
      let at : get_or old j 0 ≤ t = omega (arith, eqb-true (get_or old j 0) t both.0) in
      connected_step I x t i j r.below (sym (rings.within t j (le_refl _) r.below) ∙ le-leb (get_or old j 0) t at) both.1

  -- and an agent that one step more connects is linked to the last ring: were it linked to an earlier one, it would be in a ring itself
  connected_linked : (i : ℕ) → connected I x t i ≡ false → connected I x (suc t) i ≡ true → linked i ≡ true
  unfolding linked ring_link connected
  connected_linked i out e =
      let v = connected_added I x t i e out in
      let j = v.next in
      let d = get_or old j 0 in
      let at : d ≤ t = leb-true d t (rings.within t j (le_refl _) v.below ∙ v.reached) in
      by_less d t
      (λ less.
      let reached = sym (rings.within d j at v.below) ∙ le-leb d d (le_refl _) in
      absurd (clash (connected_mono I x less i (connected_step I x d i j v.below reached v.linked)) out))
      (λ top. any_intro (ring_link I x old t i) j v.below (and_intro (eq-eqb d t (omega arith)) v.linked))

  rings_old : (r i : ℕ) → r ≤ t → i < I.n → leb (get_or new i 0) r ≡ connected I x r i
  rings_old r i le l =
      by_less t (get_or old i 0)
      (λ far.
      let out = lt-leb (get_or old i 0) r (omega arith) in
      let still : r < get_or new i 0 = by_test (linked i) (λ e. omega (arith, far_linked i l far e)) (λ e. omega (arith, far_unlinked i l far e)) in
      lt-leb (get_or new i 0) r still ∙ sym out ∙ rings.within r i le l)
      (λ at. ap (λ v. leb v r) (near i l at) ∙ rings.within r i le l)

  rings_new : (i : ℕ) → i < I.n → leb (get_or new i 0) (t + 1) ≡ connected I x (t + 1) i
  rings_new i l =
      by_less t (get_or old i 0)
      (λ far.
      let out : connected I x t i ≡ false = sym (rings.within t i (le_refl _) l) ∙ lt-leb (get_or old i 0) t far in
      by_test (linked i)
      (λ e. le-leb (get_or new i 0) (t + 1) (omega (arith, far_linked i l far e)) ∙ sym (rw add-one (link_connected i e)))
      (λ e.
      lt-leb (get_or new i 0) (t + 1) (omega (arith, far_unlinked i l far e))
      ∙ sym (rw add-one (not_yes _ (λ h. clash (connected_linked i out h) e)))))
      (λ at.
      le-leb (get_or new i 0) (t + 1) (omega (arith, near i l at))
      ∙ sym (connected_mono I x (omega arith) i (sym (rings.within t i (le_refl _) l) ∙ le-leb (get_or old i 0) t at)))

  -- one ring more
  pub rings_next : Rings I x (t + 1) new
  rings_next =
      record {
        size = s.size;
        within = λ r i le l.
            by_less r (t + 1) (λ less. rings_old r i (omega arith) l)
            (λ top. let e : r ≡ t + 1 = omega arith in rw e (rings_new i l));
        beyond = λ i l h.
            by_less t (get_or old i 0)
            (λ far. by_test (linked i) (λ e. absurd (omega (arith, far_linked i l far e))) (far_unlinked i l far))
            (λ at. absurd (omega (arith, near i l at)));
      }

-- all rings are there: an agent has a distance where it is connected, and its distance is the number of steps that connects it first
module _ {I : Instance} {x : ℕ → ℕ} {t : ℕ} {distances : List ℕ} (rings : Rings I x t distances) (small : t < no_distance) (i : ℕ) (l : i < I.n) where
  pub rings_has : ltb (get_or distances i 0) no_distance ≡ connected I x t i
  rings_has =
      by_less t (get_or distances i 0)
      (λ far. le-ltb (get_or distances i 0) no_distance (omega (arith, rings.beyond i l far)) ∙ sym (lt-leb (get_or distances i 0) t far) ∙ rings.within t i (le_refl _) l)
      (λ at. lt-ltb (get_or distances i 0) no_distance (omega arith) ∙ sym (le-leb (get_or distances i 0) t at) ∙ rings.within t i (le_refl _) l)

  pub rings_at_most : get_or distances i 0 < no_distance → get_or distances i 0 ≤ t
  rings_at_most h =
      by_less t (get_or distances i 0) (λ far. absurd (omega (arith, rings.beyond i l far))) (λ at. at)

  module _ (has : get_or distances i 0 < no_distance) where
    pub rings_reached : connected I x (get_or distances i 0) i ≡ true
    rings_reached =
        sym (rings.within (get_or distances i 0) i (rings_at_most has) l) ∙ le-leb (get_or distances i 0) (get_or distances i 0) (le_refl _)

    pub rings_nearest : (r : ℕ) → r < get_or distances i 0 → connected I x r i ≡ false
    rings_nearest r less =
        sym (rings.within r i (omega (arith, rings_at_most has)) l) ∙ lt-leb (get_or distances i 0) r less
