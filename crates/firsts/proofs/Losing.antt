-- An agent's row without a chore: of the traits of which that chore was the first, the first after it.
-- Assumes nothing.
use Prim.Native.Nat.{ℕ, ◌+◌, ◌*◌, ◌<◌}
use mathlib.Core.Bool.{Bool, true, false, cond, not, ◌&&◌, and-true, not-not}
use mathlib.Core.List.{List}
use mathlib.Core.Path.{◌≡◌, refl, sym, ap, ap₂, ◌∙◌}
use native.Mathlib.Omega.{arith}
use lib.Bits.{bit_xor}
use lib.Dec.{eqb, leb, ltb}
use lib.ListN.{length, get_or, set, length-set}
use lib.Seq.{get_or-set_same, get_or-set_other}
use borrow.Author.Tests.{ne_eqb, ltb-false, leb-true, leb-false}
use Rattle.finite.specs.Bits.{bit, SetOf}
use Rattle.finite.specs.Search.{any_below, first_below}
use Rattle.finite.proofs.Tests.{by_test, cond_true, cond_false, and_elim, and_intro, and_cases, and_no_left, eqb_same}
use Rattle.finite.proofs.Bits.{set_cong, set_off}
use Rattle.finite.proofs.Search.{any_intro, any_first, first_cong, first_le}
use Rattle.model.specs.Limits.{max_agents}
use Rattle.model.specs.Fairness.{owns}
use Rattle.firsts.specs.Traits.{trait_count}
use Rattle.firsts.specs.Table.{Row, Put, first_after, SearchedOn, Lost}
use Rattle.firsts.proofs.Held.{without_same, without_before, without_after}

-- what was not found is none
two_puts : (a b f : Bool) {none r : ℕ} (old : ℕ) → (f ≡ false → none ≡ r) → cond (a && (b && not f)) none (cond (a && (b && f)) r old) ≡ cond (a && b) r old
two_puts false b f old h = refl
two_puts true false f old h = refl
two_puts true true true old h = refl
two_puts true true false old h = h refl

module _ {m w c word missing left : ℕ} {x : ℕ → ℕ} {trait : ℕ → ℕ → Bool} {first mid first' : List ℕ} (sets : List ℕ)
    (below : c < m) (few : w < max_agents) (room : w < length sets) (traits : SetOf trait_count word (λ t. trait t c))
    (lacks : SetOf trait_count missing (λ t. bit word t && leb c (get_or first (w * trait_count + t) 0)))
    (searched : SearchedOn m x trait w c missing left first mid) (put : Put w m left mid first') where
  -- the first chore after c with a trait
  abbrev after : ℕ → ℕ
  after t = first_after m x trait w c t

  -- agent w's chores with it, and those without c
  abbrev held : ℕ → ℕ → Bool
  held t d = owns x w d && trait t d

  abbrev others : ℕ → ℕ → Bool
  others t d = (owns x w d && not (eqb d c)) && trait t d

  -- where a trait is missing, agent w has the first chore after c, or none
  entry_now : (v t : ℕ) → v < max_agents → t < trait_count → get_or first' (v * trait_count + t) 0 ≡ cond (eqb v w && bit missing t) (after t) (get_or first (v * trait_count + t) 0)
  unfolding first_after
  entry_now v t h l =
      let r = first_below m (λ d. ltb c d && held t d) in
      let old = get_or first (v * trait_count + t) 0 in
      put.entry v t h l
      ∙ ap₂ (λ b e. cond (eqb v w && b) m e) (searched.not_found.member t l) (searched.entry v t h l)
      ∙ two_puts (eqb v w) (bit missing t) (ltb r m) old (λ e. let a = ltb-false r m e in let b = first_le m (λ d. ltb c d && held t d) in omega arith)

  module _ (own : owns x w c ≡ true) (r : Row m (owns x w) trait w first sets) where
    -- so it is of the others: a trait that is not missing has an earlier chore, or is none of c's
    first-without :
        (t : ℕ) → t < trait_count
        → first_below m (others t) ≡ cond (bit missing t) (after t) (first_below m (held t))
    unfolding first_after
    first-without t l =
        let e = lacks.member t l in
        by_test (bit missing t)
        (λ h. let both = and_elim (bit word t) (leb c (get_or first (w * trait_count + t) 0)) (sym e ∙ h) in
        let late = rw (r.entry t l) at (leb-true c (get_or first (w * trait_count + t) 0) both.1) in
        rw h (first_cong m (λ d _. without_after (owns x w) (trait t) c m late d)))
        (λ h. rw h
        (and_cases (bit word t) (leb c (get_or first (w * trait_count + t) 0)) (sym e ∙ h)
        (λ p. first_cong m (λ d _. without_same (owns x w) (trait t) c (sym (traits.member t l) ∙ p) d))
        (λ p. let early = rw (r.entry t l) at (leb-false c (get_or first (w * trait_count + t) 0) p) in without_before (owns x w) (trait t) c (omega arith) early)))

    -- a missing trait was the chore's
    had : (t : ℕ) → t < trait_count → bit missing t ≡ true → any_below m (held t) ≡ true
    had t l h =
        let both = and_elim (bit word t) (leb c (get_or first (w * trait_count + t) 0)) (sym (lacks.member t l) ∙ h) in
        any_intro (held t) c below (and_intro own (sym (traits.member t l) ∙ both.0))

    -- and the traits that none of the others has are those left
    some-without :
        (t : ℕ) → t < trait_count
        → (any_below m (held t) && not (bit missing t && not (ltb (after t) m))) ≡ any_below m (others t)
    some-without t l =
        let r = after t in
        by_test (bit missing t)
        (λ h. rw (h, had t l h) (not-not (ltb r m) ∙ ap (λ n. ltb n m) (sym (first-without t l ∙ cond_true r (first_below m (held t)) h))))
        (λ h. rw h (and-true (any_below m (held t)) ∙ any_first m (held t) ∙ ap (λ n. ltb n m) (sym (first-without t l ∙ cond_false r (first_below m (held t)) h))))
        ∙ sym (any_first m (others t))

    row_without : Row m (λ d. owns x w d && not (eqb d c)) trait w first' (set sets w (bit_xor (get_or sets w 0) left))
    row_without =
        record {
          entry = λ t l.
              entry_now w t few l
              ∙ ap₂ (λ a e. cond (a && bit missing t) (after t) e) (eqb_same w) (r.entry t l)
              ∙ sym (first-without t l);
          some =
              rw (get_or-set_same sets w (bit_xor (get_or sets w 0) left) 0 room)
              (set_cong some-without (set_off r.some searched.not_found (λ t l h. had t l (and_elim (bit missing t) (not (ltb (after t) m)) h).0)));
        }

  pub lost : Lost m x trait w c first sets first' (set sets w (bit_xor (get_or sets w 0) left))
  lost =
      record {
        size = put.size ∙ searched.size;
        sets_size = length-set sets w (bit_xor (get_or sets w 0) left);
        own = row_without;
        others = λ v t h l ne. entry_now v t h l ∙ cond_false (after t) (get_or first (v * trait_count + t) 0) (and_no_left (bit missing t) (ne_eqb v w ne));
        other_sets = λ v ne. get_or-set_other sets w v (bit_xor (get_or sets w 0) left) 0 ne;
      }
