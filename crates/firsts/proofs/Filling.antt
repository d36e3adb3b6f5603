-- The table, one chore further.
-- Assumes nothing.
use Prim.Native.Nat.{ℕ, ◌+◌, ◌*◌, ◌≤◌, ◌<◌}
use mathlib.Core.Bool.{Bool, false, ◌&&◌, ◌||◌, or-false}
use mathlib.Core.List.{List, ◌++◌}
use mathlib.Core.Path.{◌≡◌, sym, ap, ◌∙◌}
use native.Mathlib.Omega.{arith}
use lib.Bits.{bit_or}
use lib.Dec.{eqb, ltb}
use lib.ListN.{length, get_or, take, drop, replicate}
use Rattle.std.proofs.lemmas.List.{length-append, length-take-le, length-drop, length-replicate, get_or-replicate, get_or_append_left}
use borrow.Author.Tests.{eq-eqb, ne_eqb, lt-ltb, le-ltb}
use Rattle.finite.specs.Bits.{SetOf}
use Rattle.finite.proofs.Tests.{and_intro, and_no_left, and_no_right, or_right, eqb_same}
use Rattle.finite.proofs.Below.{by_less, by_same}
use Rattle.finite.proofs.Bits.{set_cong, set_none}
use Rattle.finite.proofs.Search.{any_none_intro, first_none_intro}
use Rattle.model.specs.Limits.{max_agents}
use Rattle.model.specs.Fairness.{owns}
use Rattle.firsts.specs.Traits.{trait_count}
use Rattle.firsts.specs.Table.{Row, Sized, Firsts, Gained}
use Rattle.firsts.proofs.AgentRow.{row_cong, row_gained, gained_sets, gained-other, gained-nothing}

-- the rows of n agents, of the chores before c
pub record Filled (n m : ℕ) (x : ℕ → ℕ) (trait : ℕ → ℕ → Bool) (c : ℕ) (first sets : List ℕ) : Type 0 where
  pub sized : Sized first sets
  pub row : (v : ℕ) → v < n → Row m (λ d. ltb d c && owns x v d) trait v first sets

-- a list of which the first k entries have been filled with y
abbrev fill : ℕ → ℕ → List ℕ → List ℕ
fill k y xs = replicate (length (take k xs)) y ++ drop k xs

module _ {k : ℕ} (y : ℕ) (xs : List ℕ) (le : k ≤ length xs) where
  fill_length : length (fill k y xs) ≡ length xs
  fill_length = simp (length-append, length-replicate, length-take-le, length-drop) (omega arith)

  fill_at : (i : ℕ) → i < k → get_or (fill k y xs) i 0 ≡ y
  fill_at i l =
      rw (length-take-le k xs le) (get_or_append_left (replicate k y) (drop k xs) 0 i (omega (arith, length-replicate k y)) ∙ get_or-replicate k i y 0 l)

module _ {n m : ℕ} (x : ℕ → ℕ) (trait : ℕ → ℕ → Bool) where
  -- no chore has been passed: m stands for none in the rows of n agents, and their sets are empty
  pub filled_none : (first sets : List ℕ) → Sized first sets → n ≤ max_agents → Filled n m x trait 0 (fill (n * trait_count) m first) (fill n 0 sets)
  filled_none first sets z few =
      let rows : n * trait_count ≤ length first = omega (arith, z.first_sized) in
      let some : n ≤ length sets = omega (arith, z.sets_sized) in
      record {
        sized = record { first_sized = fill_length m first rows ∙ z.first_sized; sets_sized = fill_length 0 sets some ∙ z.sets_sized };
        row = λ v l.
            record {
              entry = λ t h. fill_at m first rows (v * trait_count + t) (omega arith) ∙ sym (first_none_intro m _ (λ d _. none v t d));
              some = rw (fill_at 0 sets some v l) (set_cong (λ t _. sym (any_none_intro m _ (λ d _. none v t d))) (set_none trait_count));
            };
      }
    where
      none : (v t d : ℕ) → (ltb d 0 && owns x v d) && trait t d ≡ false
      none v t d = and_no_left (trait t d) (and_no_left (owns x v d) (le-ltb d 0 (omega arith)))

  pub filled_all : {first sets : List ℕ} → Filled n m x trait m first sets → Firsts n m x trait first sets
  filled_all f =
      record {
        sized = f.sized;
        row = λ v l. row_cong (λ d h. ap (λ b. b && owns x v d) (lt-ltb d m h)) (f.row v l);
      }

  module _ {c w : ℕ} {first sets : List ℕ} (few : n ≤ max_agents) (below : c < m) (to : x c ≡ w) (known : w < n) (f : Filled n m x trait c first sets) where
    before : (d : ℕ) → (d ≡ c → ⊥) → ltb d c ≡ ltb d (c + 1)
    before d ne =
        by_less d c (λ l. lt-ltb d c l ∙ sym (lt-ltb d (c + 1) (omega arith)))
        (λ l. le-ltb d c l ∙ sym (le-ltb d (c + 1) (omega arith)))

    more_own : (d : ℕ) → (ltb d c && owns x w d || eqb d c) ≡ (ltb d (c + 1) && owns x w d)
    unfolding owns
    more_own d =
        by_same d c
        (λ e. rw e (or_right (ltb c c && eqb (x c) w) (eqb_same c) ∙ sym (and_intro (lt-ltb c (c + 1) (omega arith)) (eq-eqb (x c) w to))))
        (λ ne. rw (ne_eqb d c ne, before d ne) (or-false (ltb d (c + 1) && eqb (x d) w)))

    more_other : (v : ℕ) → (v ≡ w → ⊥) → (d : ℕ) → (ltb d c && owns x v d) ≡ (ltb d (c + 1) && owns x v d)
    unfolding owns
    more_other v ne d =
        by_same d c
        (λ e. let no : eqb (x c) v ≡ false = ne_eqb (x c) v (λ q. ne (sym q ∙ to)) in rw e (and_no_right (ltb c c) no ∙ sym (and_no_right (ltb c (c + 1)) no)))
        (λ o. ap (λ b. b && eqb (x d) v) (before d o))

    -- chore c goes to its owner's row
    pub filled_next : {word : ℕ} {first' sets' : List ℕ} → SetOf trait_count word (λ t. trait t c) → Gained w c word first sets first' sets' → Filled n m x trait (c + 1) first' sets'
    filled_next traits g =
        record {
          sized = record { first_sized = g.size ∙ f.sized.first_sized; sets_sized = gained_sets g ∙ f.sized.sets_sized };
          row = λ v l.
              by_same v w
              (λ e. rw e (row_cong (λ d _. more_own d) (row_gained traits (f.row w known) below (omega arith) (omega (arith, f.sized.sets_sized)) g)))
              (λ ne. row_cong (λ d _. more_other v ne d) (gained-other f.sized.first_sized g ne (f.row v l)));
        }

    -- it has no trait that is new to its owner
    pub nothing_new : (word : ℕ) → bit_or (get_or sets w 0) word ≡ get_or sets w 0 → Gained w c word first sets first sets
    nothing_new word e = gained-nothing (λ d l. and_no_left (owns x w d) (le-ltb d c l)) e (f.row w known)
