-- Laws of the line in the scratch: an agent is passed over or takes the next place, a ring is done, no ring is left.
-- Assumes nothing.
use Prim.Native.Nat.{ℕ, zero, suc, ◌+◌, ◌-◌, ◌^◌, ◌≤◌, ◌<◌}
use mathlib.Core.Bool.{Bool, true, false, ◌&&◌, ◌||◌}
use mathlib.Core.List.{List, [], ◌∷◌, ◌++◌, append_assoc, append-nil}
use mathlib.Core.Path.{◌≡◌, refl, sym, ap, ◌∙◌}
use native.Mathlib.Nat.{le_refl}
use native.Mathlib.Omega.{arith}
use lib.Bits.{bit_or}
use lib.Dec.{leb, ltb}
use lib.ListN.{length, get_or, set, length-append, length-set, get_or-append}
use lib.Seq.{get_or-append-add, get_or_at, get_or-set_same, get_or-set_other}
use borrow.Author.Tests.{lt-ltb, le-ltb, ltb-true, le-leb, lt-leb, leb-true, eq-eqb, eqb-true}
use Rattle.finite.specs.Bits.{SetOf}
use Rattle.finite.specs.Search.{any_below}
use Rattle.finite.specs.Lists.{passing}
use Rattle.finite.proofs.Tests.{bool_eq, clash, and_elim, and_intro, and_no_left, or_left, or_right, or_cases, not_yes}
use Rattle.finite.proofs.Below.{by_top, by_less, by_same}
use Rattle.finite.proofs.Search.{any_intro, any_elim, any_none_intro, any_next}
use Rattle.finite.proofs.Bits.{set_none, set_cong, set_insert}
use Rattle.finite.proofs.Passing.{pass_hit, pass_miss, pass_none, pass_at, pass_place}
use Rattle.model.specs.Limits.{max_agents, scratch_size}
use Rattle.rings.specs.Line.{rings_before, line_to, in_line, Lined, stands_at}

-- who stands in line: everyone of a ring before, and those of the ring at work who were passed
module _ (ring : ℕ → ℕ → Bool) (t g i : ℕ) where
  pub in_before : (s : ℕ) → s < t → ring s i ≡ true → in_line ring t g i ≡ true
  unfolding in_line
  in_before s l e = or_left _ (any_intro (λ s. ring s i) s l e)

  pub in_here : ring t i ≡ true → i < g → in_line ring t g i ≡ true
  unfolding in_line
  in_here e l = or_right (any_below t (λ s. ring s i)) (and_intro e (lt-ltb i g l))

  pub in_cases {ℓ} : {A : Type ℓ} → in_line ring t g i ≡ true → ((s : ℕ) → s < t → ring s i ≡ true → A) → (ring t i ≡ true → i < g → A) → A
  unfolding in_line
  in_cases h before here =
      or_cases (any_below t (λ s. ring s i)) (ring t i && ltb i g) h
      (λ a. let r = any_elim t (λ s. ring s i) a in before r.index r.below r.passes)
      (λ b. let both = and_elim (ring t i) (ltb i g) b in here both.0 (ltb-true i g both.1))

  -- but for agent g itself, one agent on nobody else does
  line_same : (i ≡ g → ⊥) → in_line ring t g i ≡ in_line ring t (suc g) i
  unfolding in_line
  line_same p = ap (λ b. any_below t (λ s. ring s i) || (ring t i && b)) (by_less i g (λ l. lt-ltb i g l ∙ sym (lt-ltb i (suc g) (omega arith))) (λ l. le-ltb i g l ∙ sym (le-ltb i (suc g) (omega arith))))

-- another word for the same line
lined_as : {n : ℕ} {ring : ℕ → ℕ → Bool} {t g u h : ℕ} {lent scratch : List ℕ} → line_to n ring t g ≡ line_to n ring u h → ((i : ℕ) → i < n → in_line ring t g i ≡ in_line ring u h i) → Lined n ring t g lent scratch → Lined n ring u h lent scratch
lined_as e same L =
    record {
      distance = λ i s l a. L.distance i s l (same i l ∙ a);
      unreached = λ i l a. L.unreached i l (same i l ∙ a);
      place = λ k l. rw (← e) (L.place k (rw e l));
      spare = L.spare;
      rest = λ b l. L.rest b (rw e l);
    }

module _ (n : ℕ) (ring : ℕ → ℕ → Bool) where
  -- the line one agent on
  line_take : (t g : ℕ) → ring t g ≡ true → line_to n ring t (suc g) ≡ line_to n ring t g ++ (g ∷ [])
  unfolding line_to
  line_take t g e = rw (pass_hit g (ring t) e) (sym (append_assoc (rings_before n ring t) (passing g (ring t)) (g ∷ [])))

  pub line_skip : (t g : ℕ) → ring t g ≡ false → line_to n ring t g ≡ line_to n ring t (suc g)
  unfolding line_to
  line_skip t g e = rw (pass_miss g (ring t) e)

  -- a ring is done: the next one begins
  pub line_next : (t : ℕ) → line_to n ring t n ≡ rings_before n ring (suc t)
  unfolding line_to rings_before
  line_next t = refl

  pub line_zero : (t : ℕ) → line_to n ring t 0 ≡ rings_before n ring t
  unfolding line_to passing
  line_zero t = append-nil (rings_before n ring t)

  -- nobody is in ring t or further
  module _ (t : ℕ) (none : (s i : ℕ) → t ≤ s → i < n → ring s i ≡ false) where
    rings_stay : (s : ℕ) → t ≤ s → rings_before n ring s ≡ rings_before n ring t
    unfolding rings_before
    rings_stay zero l = let e : t ≡ 0 = omega arith in rw e
    rings_stay (suc s) l =
        by_less s t
        (λ h. let e : t ≡ suc s = omega arith in rw e)
        (λ h. rw (pass_none n (λ i b. none s i h b), append-nil (rings_before n ring s)) (rings_stay s h))

    -- so the line that has come to ring t is the line of all rings
    pub lined_all : {lent scratch : List ℕ} (g u : ℕ) → g ≤ n → t ≤ u → Lined n ring t g lent scratch → Lined n ring u 0 lent scratch
    unfolding line_to
    lined_all g u few l =
        lined_as (rw (pass_none g (λ i b. none t i (le_refl t) (omega arith)), append-nil (rings_before n ring t)) (sym (rings_stay u l)) ∙ sym (line_zero u))
        (λ i h. bool_eq
        (λ a. in_cases ring t g i a (λ s b. in_before ring u 0 i s (omega arith)) (λ e b. absurd (clash e (none t i (le_refl t) h))))
        (λ a. in_cases ring u 0 i a (λ s b e. by_less s t (λ c. in_before ring t g i s c e) (λ c. absurd (clash e (none s i c h)))) (λ e b. absurd (omega arith))))

pub lined_skip : {n : ℕ} {ring : ℕ → ℕ → Bool} {t g : ℕ} {lent scratch : List ℕ} → ring t g ≡ false → Lined n ring t g lent scratch → Lined n ring t (suc g) lent scratch
lined_skip {n} {ring} {t} {g} none =
    lined_as (line_skip n ring t g none)
    (λ i l. by_same i g
    (λ q. bool_eq
    (λ a. in_cases ring t g i a (in_before ring t (suc g) i) (λ e h. absurd (omega arith)))
    (λ a. in_cases ring t (suc g) i a (in_before ring t g i) (λ e h. absurd (clash e (ap (ring t) q ∙ none)))))
    (line_same ring t g i))

pub lined_next : {n : ℕ} {ring : ℕ → ℕ → Bool} {t : ℕ} {lent scratch : List ℕ} → Lined n ring t n lent scratch → Lined n ring (suc t) 0 lent scratch
lined_next {n} {ring} {t} =
    lined_as (line_next n ring t ∙ sym (line_zero n ring (suc t)))
    (λ i l. bool_eq
    (λ a. in_cases ring t n i a (λ s h. in_before ring (suc t) 0 i s (omega arith)) (λ e h. in_before ring (suc t) 0 i t (le_refl _) e))
    (λ a. in_cases ring (suc t) 0 i a (λ s h e. by_top h (λ q. in_here ring t n i (rw q at e) l) (λ b. in_before ring t n i s b e)) (λ e h. absurd (omega arith))))

-- An agent takes the next place: its byte, the place, and every other byte.
module _ (scratch : List ℕ) (i end v : ℕ) (sized : length scratch ≡ scratch_size) (known : i < max_agents) (room : end < max_agents) where
  pub at_agent : get_or (set (set scratch i v) (max_agents + end) i) i 0 ≡ v
  at_agent = get_or-set_other (set scratch i v) (max_agents + end) i i 0 (omega arith) ∙ get_or-set_same scratch i v 0 (omega arith)

  pub at_place : get_or (set (set scratch i v) (max_agents + end) i) (max_agents + end) 0 ≡ i
  at_place = get_or-set_same (set scratch i v) (max_agents + end) i 0 (rw (length-set scratch i v) (omega arith))

  pub at_other : (b : ℕ) → (b ≡ i → ⊥) → (b ≡ max_agents + end → ⊥) → get_or (set (set scratch i v) (max_agents + end) i) b 0 ≡ get_or scratch b 0
  at_other b p q = get_or-set_other (set scratch i v) (max_agents + end) b i 0 q ∙ get_or-set_other scratch i b v 0 p

module _ (n : ℕ) (ring : ℕ → ℕ → Bool) {t g end : ℕ} (here : ring t g ≡ true) (ended : end ≡ length (line_to n ring t g)) where
  pub longer : end + 1 ≡ length (line_to n ring t (suc g))
  longer = rw (line_take n ring t g here) (ap (λ k. k + 1) ended ∙ sym (length-append (line_to n ring t g) (g ∷ [])))

  pub lined_take : {lent scratch : List ℕ} → ((s i : ℕ) → ring s i ≡ true → ring t i ≡ true → s ≡ t) → length scratch ≡ scratch_size → n ≤ max_agents → g < n → end < max_agents → Lined n ring t g lent scratch → Lined n ring t (suc g) lent (set (set scratch g (t + 1)) (max_agents + end) g)
  lined_take {scratch = scratch} single sized few known room L =
      let fits : g < max_agents = omega arith in
      let other = at_other scratch g end (t + 1) sized fits room in
      record {
        distance =
            λ i s l a e. by_same i g
            (λ q. let same : s ≡ t = single s g (rw q at e) here in rw (q, same) (at_agent scratch g end (t + 1) sized fits room))
            (λ p. other i p (omega arith) ∙ L.distance i s l (line_same ring t g i p ∙ a) e);
        unreached =
            λ i l a. by_same i g
            (λ q. absurd (clash (in_here ring t (suc g) i (rw q here) (omega arith)) a))
            (λ p. other i p (omega arith) ∙ L.unreached i l (line_same ring t g i p ∙ a));
        place =
            λ k l. rw (line_take n ring t g here)
            (by_less k end
            (λ h.
            let b : k < length (line_to n ring t g) = rw ended at h in
            other (max_agents + k) (omega arith) (omega arith) ∙ L.place k b ∙ sym (get_or-append (line_to n ring t g) (g ∷ []) 0 k b))
            (λ h. let q : k ≡ end = omega (arith, longer) in rw q (at_place scratch g end (t + 1) sized fits room ∙ sym (get_or_at (line_to n ring t g) g [] 0 end (sym ended)))));
        spare = λ b l h. other b (omega arith) (omega arith) ∙ L.spare b l h;
        rest = λ b l. let h : max_agents + (end + 1) ≤ b = rw longer l in other b (omega arith) (omega arith) ∙ L.rest b (omega arith);
      }

-- The agents at some places, as a word: one place further.
module _ {n : ℕ} (scratch : List ℕ) (from : ℕ) where
  pub stands_none : SetOf n 0 (stands_at scratch from from)
  unfolding stands_at
  stands_none = set_cong (λ i l. sym (any_none_intro from _ (λ k h. and_no_left _ (lt-leb from k h)))) (set_none n)

  pub stands_next : {w k : ℕ} → from ≤ k → get_or scratch (max_agents + k) 0 < n → SetOf n w (stands_at scratch from k) → SetOf n (bit_or w (2 ^ get_or scratch (max_agents + k) 0)) (stands_at scratch from (k + 1))
  unfolding stands_at
  stands_next {k = k} l known s =
      set_cong (λ i h. sym (any_next k _ ∙ rw (le-leb from k l))) (set_insert s known)

-- The places of ring t are those behind the rings before it.
module _ {n : ℕ} {ring : ℕ → ℕ → Bool} {t from to : ℕ} {lent scratch : List ℕ} (L : Lined n ring t n lent scratch) (begun : from ≡ length (rings_before n ring t)) (ended : to ≡ length (line_to n ring t n)) where
  both : to ≡ from + length (passing n (ring t))
  unfolding line_to
  both = ended ∙ length-append (rings_before n ring t) (passing n (ring t)) ∙ ap (λ k. k + length (passing n (ring t))) (sym begun)

  stands : (q : ℕ) → q < length (passing n (ring t)) → get_or scratch (max_agents + (from + q)) 0 ≡ get_or (passing n (ring t)) q 0
  unfolding line_to
  stands q l =
      L.place (from + q) (omega (arith, ended, both))
      ∙ rw begun (get_or-append-add (rings_before n ring t) (passing n (ring t)) q 0)

  pub ring_stands : (i : ℕ) → i < n → stands_at scratch from to i ≡ ring t i
  unfolding stands_at
  ring_stands i l =
      bool_eq
      (λ a.
      let r = any_elim to _ a in
      let two = and_elim (leb from r.index) _ r.passes in
      let le : from ≤ r.index = leb-true from r.index two.0 in
      let there : r.index - from < length (passing n (ring t)) = omega (arith, both, r.below) in
      let e : from + (r.index - from) ≡ r.index = omega arith in
      let v : i ≡ get_or (passing n (ring t)) (r.index - from) 0 = eqb-true i (get_or scratch (max_agents + r.index) 0) two.1 ∙ ap (λ k. get_or scratch (max_agents + k) 0) (sym e) ∙ stands (r.index - from) there in
      rw v (pass_at n (ring t) (r.index - from) there).passes)
      (λ e.
      let p = pass_place n (ring t) i l e in
      any_intro _ (from + p.place) (omega (arith, both, p.there))
      (and_intro (le-leb from (from + p.place) (omega arith)) (eq-eqb _ _ (sym (stands p.place p.there ∙ p.is)))))

  -- no places, no ring
  pub ring_empty : from ≡ to → (i : ℕ) → i < n → ring t i ≡ false
  ring_empty e i l = not_yes (ring t i) (λ h. let p = pass_place n (ring t) i l h in omega (arith, both, p.there))
