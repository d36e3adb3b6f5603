-- The search for the next chores with the missing traits, one chore further.
-- Assumes nothing.
use Prim.Native.Nat.{ℕ, suc, ◌+◌, ◌*◌, ◌^◌, ◌≤◌, ◌<◌}
use mathlib.Core.Bool.{Bool, true, false, cond, not, ◌&&◌, ◌||◌, and-true}
use mathlib.Core.List.{List}
use mathlib.Core.Path.{◌≡◌, refl, sym, ap, ap₂, ◌∙◌}
use native.Mathlib.Omega.{arith}
use lib.Bits.{bit_and, bit_xor}
use lib.Dec.{eqb, ltb}
use lib.ListN.{length, get_or}
use borrow.Author.Tests.{ltb-true, lt-ltb, le-ltb, not-false}
use Rattle.finite.specs.Bits.{bit, SetOf}
use Rattle.finite.specs.Search.{first_step, first_below}
use Rattle.finite.proofs.Tests.{by_test, cond_false, and_elim, and_no_left, and_no_right, and_rest, not_on}
use Rattle.finite.proofs.Bits.{set_cong, set_and, set_off, set_empty}
use Rattle.finite.proofs.Search.{first_next, first_none_intro, first_on}
use Rattle.model.specs.Limits.{max_agents}
use Rattle.model.specs.Fairness.{owns}
use Rattle.firsts.specs.Traits.{trait_count}
use Rattle.firsts.specs.Table.{Put, first_after, SearchedOn}

-- an entry after a step: a says that the row is the one searched, b that the trait was missing, f that it was found before at r, h that chore k
-- has it
entry_step : (a b f h : Bool) (k r old : ℕ) → cond (a && ((b && not f) && h)) k (cond (a && (b && f)) r old) ≡ cond (a && (b && (f || h))) (cond f r (cond h k (suc k))) old
entry_step false b f h k r old = refl
entry_step true false f h k r old = refl
entry_step true true true h k r old = refl
entry_step true true false true k r old = refl
entry_step true true false false k r old = refl

-- the traits left after a step
left_step : (b f h : Bool) → ((b && not f) && not ((b && not f) && h)) ≡ (b && not (f || h))
left_step false f h = refl
left_step true true h = refl
left_step true false h = refl

module _ (x : ℕ → ℕ) (trait : ℕ → ℕ → Bool) (w c : ℕ) where
  abbrev after : ℕ → ℕ → ℕ
  after k t = first_after k x trait w c t

  -- trait t is missing, and no chore before k has been found to have it
  abbrev still : ℕ → ℕ → ℕ → Bool
  still k missing t = bit missing t && not (ltb (after k t) k)

  -- no chore has been searched yet
  after_none : (t : ℕ) → ltb (after (c + 1) t) (c + 1) ≡ false
  unfolding first_after
  after_none t =
      let e = first_none_intro (c + 1) (λ d. ltb c d && (owns x w d && trait t d)) (λ d l. and_no_left (owns x w d && trait t d) (le-ltb c d (omega arith))) in
      le-ltb (first_below (c + 1) (λ d. ltb c d && (owns x w d && trait t d))) (c + 1) (omega (arith, e))

  pub searched_none : {missing : ℕ} (first : List ℕ) → missing < 2 ^ trait_count → SearchedOn (c + 1) x trait w c missing missing first first
  searched_none {missing} first few =
      record {
        size = refl;
        entry = λ v t _ _.
            sym (cond_false (after (c + 1) t) (get_or first (v * trait_count + t) 0) (and_no_right (eqb v w) (and_no_right (bit missing t) (after_none t))));
        not_found = record { below = few; member = λ t _. sym (ap (λ b. bit missing t && b) (not_on (after_none t)) ∙ and-true (bit missing t)) };
      }

  -- chore k is searched
  module _ {k : ℕ} (later : c < k) where
    -- it is agent w's and has trait t
    abbrev hit : ℕ → Bool
    hit t = owns x w k && trait t k

    -- the first chore after c is the one found before, or k
    after_next : (t : ℕ) → after (k + 1) t ≡ cond (ltb (after k t) k) (after k t) (cond (hit t) k (suc k))
    unfolding first_after first_step
    after_next t = rw (first_next, lt-ltb c k later)

    after_found : (t : ℕ) → ltb (after (k + 1) t) (k + 1) ≡ (ltb (after k t) k || hit t)
    after_found t =
        let r = after k t in
        rw (after_next t)
        (by_test (ltb r k)
        (λ e. let l = ltb-true r k e in rw e (lt-ltb r (k + 1) (omega arith)))
        (λ e. rw e (by_test (hit t) (λ h. rw h (lt-ltb k (k + 1) (omega arith))) (λ h. rw h (le-ltb (suc k) (k + 1) (omega arith))))))

    -- the traits that were left and that it has
    abbrev new : ℕ → ℕ → Bool
    new missing t = still k missing t && hit t

    module _ {missing left : ℕ} {first now : List ℕ} (s : SearchedOn k x trait w c missing left first now) where
      -- its new traits are put, and no longer left
      step :
          {left' : ℕ} {now' : List ℕ} → length now' ≡ length now
          → ((v t : ℕ) → v < max_agents → t < trait_count → get_or now' (v * trait_count + t) 0 ≡ cond (eqb v w && new missing t) k (get_or now (v * trait_count + t) 0))
          → SetOf trait_count left' (λ t. still k missing t && not (new missing t))
          → SearchedOn (k + 1) x trait w c missing left' first now'
      step size entry rest =
          record {
            size = size ∙ s.size;
            entry = λ v t few l.
                let old = get_or first (v * trait_count + t) 0 in
                let r = after k t in
                entry v t few l ∙ ap (cond (eqb v w && new missing t) k) (s.entry v t few l)
                ∙ entry_step (eqb v w) (bit missing t) (ltb r k) (hit t) k r old
                ∙ ap₂ (λ f n. cond (eqb v w && (bit missing t && f)) n old) (sym (after_found t)) (sym (after_next t));
            not_found =
                set_cong
                (λ t _. left_step (bit missing t) (ltb (after k t) k) (hit t) ∙ ap (λ f. bit missing t && not f) (sym (after_found t)))
                rest;
          }

      -- it is another agent's
      pub searched_past : owns x w k ≡ false → SearchedOn (k + 1) x trait w c missing left first now
      searched_past other =
          let none : (t : ℕ) → new missing t ≡ false = λ t. and_no_right (still k missing t) (and_no_left (trait t k) other) in
          step refl
          (λ v t _ _. sym (cond_false k (get_or now (v * trait_count + t) 0) (and_no_right (eqb v w) (none t))))
          (set_cong (λ t _. sym (ap (λ b. still k missing t && b) (not_on (none t)) ∙ and-true (still k missing t))) s.not_found)

      -- it is agent w's
      pub searched-next :
          {word : ℕ} {now' : List ℕ} → owns x w k ≡ true → SetOf trait_count word (λ t. trait t k) → Put w k (bit_and left word) now now'
          → SearchedOn (k + 1) x trait w c missing (bit_xor left (bit_and left word)) first now'
      searched-next {word} own traits p =
          let found : SetOf trait_count (bit_and left word) (new missing) = set_cong (λ t _. ap (λ b. still k missing t && (b && trait t k)) (sym own)) (set_and s.not_found traits) in
          step p.size
          (λ v t few l. p.entry v t few l ∙ ap (λ b. cond (eqb v w && b) k (get_or now (v * trait_count + t) 0)) (found.member t l))
          (set_off s.not_found found (λ t _ h. (and_elim (still k missing t) (hit t) h).0))

  -- none is left: the search may stop
  module _ {k m missing : ℕ} {first now : List ℕ} (few : k ≤ m) (s : SearchedOn k x trait w c missing 0 first now) where
    -- each missing trait has been found
    found_all : (t : ℕ) → t < trait_count → bit missing t ≡ true → ltb (after k t) k ≡ true
    found_all t l h = not-false (ltb (after k t) k) (and_rest _ (set_empty s.not_found t l) h)

    found_first : (t : ℕ) → t < trait_count → bit missing t ≡ true → after m t ≡ after k t
    unfolding first_after
    found_first t l h =
        let has : ℕ → Bool = λ d. ltb c d && (owns x w d && trait t d) in first_on has few (ltb-true (first_below k has) k (found_all t l h))

    found_below : (t : ℕ) → t < trait_count → bit missing t ≡ true → ltb (after m t) m ≡ true
    found_below t l h =
        let r = after k t in
        let b = ltb-true r k (found_all t l h) in
        rw (found_first t l h) (lt-ltb r m (omega arith))

    pub searched_all : SearchedOn m x trait w c missing 0 first now
    searched_all =
        record {
          size = s.size;
          entry = λ v t h l.
              let old = get_or first (v * trait_count + t) 0 in
              s.entry v t h l
              ∙ by_test (bit missing t)
              (λ e. rw (e, found_all t l e, found_below t l e, found_first t l e))
              (λ e.
              cond_false (after k t) old (and_no_right (eqb v w) (and_no_left (ltb (after k t) k) e))
              ∙ sym (cond_false (after m t) old (and_no_right (eqb v w) (and_no_left (ltb (after m t) m) e))));
          not_found =
              set_cong
              (λ t l. by_test (bit missing t) (λ e. rw (e, found_all t l e, found_below t l e)) (λ e. rw e))
              s.not_found;
        }
