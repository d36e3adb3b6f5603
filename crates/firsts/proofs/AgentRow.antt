-- Laws of an agent's row in the table: the same row said otherwise, and one chore more.
-- Assumes nothing.
use Prim.Native.Nat.{ℕ, ◌+◌, ◌*◌, ◌≤◌, ◌<◌, min}
use mathlib.Core.Bool.{Bool, true, false, ◌&&◌, ◌||◌}
use mathlib.Core.List.{List}
use mathlib.Core.Path.{◌≡◌, refl, sym, ap, ◌∙◌}
use native.Mathlib.Omega.{arith}
use lib.Bits.{bit_or}
use lib.Dec.{eqb}
use lib.ListN.{length, get_or, set, length-set, get_or-eq_default}
use lib.Seq.{get_or-set_same, get_or-set_other, set-get_or}
use borrow.Author.Tests.{eqb-true, ne_eqb, ltb-true}
use Rattle.finite.specs.Bits.{bit, SetOf}
use Rattle.finite.specs.Search.{any_below, first_below}
use Rattle.finite.proofs.Tests.{by_test, by_cond, clash, cond_true, cond_false, and_elim, and_intro, and_no_left, and_no_right, or_right, eqb_same}
use Rattle.finite.proofs.Below.{by_less}
use Rattle.finite.proofs.Bits.{set_cong, set_or, bit-or}
use Rattle.finite.proofs.Search.{any_cong, any_first, first_cong, first_more, first_passes}
use Rattle.model.specs.Limits.{max_agents}
use Rattle.firsts.specs.Traits.{trait_count}
use Rattle.firsts.specs.Table.{Row, Gained}
use Rattle.firsts.proofs.Held.{with_same, with_more, any_with}

module _ {m : ℕ} {trait : ℕ → ℕ → Bool} {w : ℕ} where
  -- the chores held, said otherwise
  pub row_cong : {own held : ℕ → Bool} {first sets : List ℕ} → ((d : ℕ) → d < m → own d ≡ held d) → Row m own trait w first sets → Row m held trait w first sets
  row_cong e r =
      record {
        entry = λ t l. r.entry t l ∙ first_cong m (λ d h. ap (λ b. b && trait t d) (e d h));
        some = set_cong (λ t l. any_cong m (λ d h. ap (λ b. b && trait t d) (e d h))) r.some;
      }

  -- the same row in other lists
  pub row_kept :
      {own : ℕ → Bool} {first sets first' sets' : List ℕ} → ((t : ℕ) → t < trait_count → get_or first' (w * trait_count + t) 0 ≡ get_or first (w * trait_count + t) 0) → get_or sets' w 0 ≡ get_or sets w 0
      → Row m own trait w first sets → Row m own trait w first' sets'
  row_kept e s r = record { entry = λ t l. e t l ∙ r.entry t l; some = rw s r.some }

  module _ {own : ℕ → Bool} {c word : ℕ} {first sets : List ℕ} (traits : SetOf trait_count word (λ t. trait t c)) (r : Row m own trait w first sets) where
    -- agent w has gained chore c
    pub row_gained : {first' sets' : List ℕ} → c < m → w < max_agents → w < length sets → Gained w c word first sets first' sets' → Row m (λ d. own d || eqb d c) trait w first' sets'
    row_gained {first'} {sets'} l few room g =
        record {
          entry = λ t h.
              let old = get_or first (w * trait_count + t) 0 in
              by_test (trait t c)
              (λ p. g.entry w t few h ∙ cond_true (min c old) old (and_intro (eqb_same w) (traits.member t h ∙ p))
              ∙ ap (min c) (r.entry t h) ∙ sym (first_more (λ d. own d && trait t d) l) ∙ sym (first_cong m (λ d _. with_more own (trait t) c p d)))
              (λ p. g.entry w t few h ∙ cond_false (min c old) old (and_no_right (eqb w w) (traits.member t h ∙ p))
              ∙ r.entry t h ∙ sym (first_cong m (λ d _. with_same own (trait t) c p d)));
          some =
              rw (g.some, get_or-set_same sets w (bit_or (get_or sets w 0) word) 0 room)
              (set_cong (λ t h. sym (any_with own (trait t) c l)) (set_or r.some traits));
        }

-- a chore gained leaves the number of sets
pub gained_sets : {w c word : ℕ} {first sets first' sets' : List ℕ} → Gained w c word first sets first' sets' → length sets' ≡ length sets
gained_sets {w} {word = word} {sets = sets} g = ap length g.some ∙ length-set sets w (bit_or (get_or sets w 0) word)

-- an agent that the table has no row for
pub beyond : (v t : ℕ) (first first' : List ℕ) → length first ≡ max_agents * trait_count → length first' ≡ length first → max_agents ≤ v → get_or first' (v * trait_count + t) 0 ≡ get_or first (v * trait_count + t) 0
beyond v t first first' size same l =
    get_or-eq_default first' 0 (omega arith) ∙ sym (get_or-eq_default first 0 (omega arith))

-- the rows of the other agents, where agent w has gained chore c
pub gained-other :
    {m v w c word : ℕ} {own : ℕ → Bool} {trait : ℕ → ℕ → Bool} {first sets first' sets' : List ℕ} → length first ≡ max_agents * trait_count → Gained w c word first sets first' sets' → (v ≡ w → ⊥)
    → Row m own trait v first sets → Row m own trait v first' sets'
gained-other {v = v} {w} {c} {word} {first = first} {sets} {first'} size g ne =
    row_kept
    (λ t l. by_less v max_agents
    (λ few. g.entry v t few l ∙ cond_false (min c (get_or first (v * trait_count + t) 0)) (get_or first (v * trait_count + t) 0) (and_no_left (bit word t) (ne_eqb v w ne)))
    (λ many. beyond v t first first' size g.size many))
    (ap (λ s. get_or s v 0) g.some ∙ get_or-set_other sets w v (bit_or (get_or sets w 0) word) 0 ne)

-- chore c comes after all that agent w holds, and has no trait that none of them has: it is gained with no change
pub gained-nothing :
    {m w c word : ℕ} {own : ℕ → Bool} {trait : ℕ → ℕ → Bool} {first sets : List ℕ} → ((d : ℕ) → c ≤ d → own d ≡ false) → bit_or (get_or sets w 0) word ≡ get_or sets w 0
    → Row m own trait w first sets → Gained w c word first sets first sets
gained-nothing {m} {w} {c} {word} {own} {trait} {first} {sets} after e r =
    record {
      size = refl;
      entry = λ v t few l.
          let old = get_or first (v * trait_count + t) 0 in
          by_cond (λ x. old ≡ x) (eqb v w && bit word t) (min c old) old
          (λ p. let both = and_elim (eqb v w) (bit word t) p in let low = early t l both.1 in let q : v ≡ w = eqb-true v w both.0 in let q' = rw (← q) at low in omega arith)
          (λ _. refl);
      some = sym (ap (set sets w) e ∙ set-get_or sets w 0);
    }
  where
    early : (t : ℕ) → t < trait_count → bit word t ≡ true → get_or first (w * trait_count + t) 0 < c
    early t l p =
        let has : ℕ → Bool = λ d. own d && trait t d in
        let in_set : any_below m has ≡ true = sym (r.some.member t l) ∙ ap (λ s. bit s t) (sym e) ∙ bit-or (get_or sets w 0) word t ∙ or_right (bit (get_or sets w 0) t) p in
        let b : first_below m has < m = ltb-true (first_below m has) m (sym (any_first m has) ∙ in_set) in
        let own-it = and_elim (own (first_below m has)) (trait t (first_below m has)) (first_passes m has b) in
        rw (r.entry t l) (by_less (first_below m has) c (λ h. h) (λ h. absurd (clash own-it.0 (after (first_below m has) h))))
