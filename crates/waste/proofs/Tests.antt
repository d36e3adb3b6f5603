-- Laws of the tests that the searches for waste go by.
-- Assumes nothing.
use Prim.Native.Nat.{ℕ, ◌<◌}
use mathlib.Core.Bool.{Bool, true, false, not, ◌&&◌}
use mathlib.Core.List.{List}
use mathlib.Core.Path.{◌≡◌, refl}
use lib.Dec.{ltb}
use lib.ListN.{get_or}
use borrow.Author.Tests.{lt-ltb, ltb-true, not-true}
use Rattle.finite.specs.Search.{any_below}
use Rattle.finite.proofs.Tests.{and_elim, and_intro, and_no_left}
use Rattle.model.specs.Instance.{owner_of}
use Rattle.model.specs.Sheet.{agents_of, chores_of, marks_easy, as_marked}
use Rattle.model.specs.Fairness.{owns}
use Rattle.welfare.specs.Waste.{passes_on}
use Rattle.welfare.proofs.Costs.{owned, owned_by, owned_not}
use Rattle.waste.specs.Rings.{no_distance}
use Rattle.waste.specs.Tests.{shares, takes, wasted, passable}

-- single tests

module _ (s owners : List ℕ) (j i c : ℕ) where
  pub shares_other : (owner_of owners c ≡ i → ⊥) → shares s owners j i c ≡ false
  unfolding shares
  shares_other other = and_no_left _ (owned_not (owner_of owners) i c other)

  -- p is what was read of i's own chore
  pub shares_mine : {p v : Bool} → owner_of owners c ≡ i → p ≡ (marks_easy s i c && marks_easy s j c) → p ≡ v → shares s owners j i c ≡ v
  unfolding shares
  shares_mine mine read e = rw (owned_by (owner_of owners) i c mine, ← read) e

module _ (s distances : List ℕ) (limit c j : ℕ) where
  pub takes_hit : get_or distances j 0 < limit → marks_easy s j c ≡ true → takes s distances limit c j ≡ true
  unfolding takes
  takes_hit near easy = and_intro (lt-ltb (get_or distances j 0) limit near) easy

  pub takes_elim : takes s distances limit c j ≡ true → (get_or distances j 0 < limit) × (marks_easy s j c ≡ true)
  unfolding takes
  takes_elim e =
      let both = and_elim (ltb (get_or distances j 0) limit) (marks_easy s j c) e in
      (ltb-true (get_or distances j 0) limit both.0, both.1)

module _ (s owners distances : List ℕ) (c : ℕ) where
  pub wasted_elim : wasted s owners distances c ≡ true → (marks_easy s (owner_of owners c) c ≡ false) × (any_below (agents_of s) (takes s distances no_distance c) ≡ true)
  unfolding wasted
  wasted_elim e =
      let both = and_elim (not (marks_easy s (owner_of owners c) c)) (any_below (agents_of s) (takes s distances no_distance c)) e in
      (not-true (marks_easy s (owner_of owners c) c) both.0, both.1)

module _ (s owners distances : List ℕ) (limit h c : ℕ) where
  pub passable_elim : passable s owners distances limit h c ≡ true → (owner_of owners c ≡ h) × (marks_easy s h c ≡ true) × (any_below (agents_of s) (takes s distances limit c) ≡ true)
  unfolding passable
  passable_elim e =
      let both = and_elim (owns (owner_of owners) h c) (marks_easy s h c && any_below (agents_of s) (takes s distances limit c)) e in
      let two = and_elim (marks_easy s h c) (any_below (agents_of s) (takes s distances limit c)) both.1 in
      (owned (owner_of owners) h c both.0, two.0, two.1)

  pub passable_intro : owner_of owners c ≡ h → marks_easy s h c ≡ true → any_below (agents_of s) (takes s distances limit c) ≡ true → passable s owners distances limit h c ≡ true
  unfolding passable
  passable_intro mine easy some = and_intro (owned_by (owner_of owners) h c mine) (and_intro easy some)

-- whole searches, and the definitions

module _ (s owners : List ℕ) where
  pub passes_shares : (i j : ℕ) → any_below (chores_of s) (shares s owners j i) ≡ passes_on (as_marked s) (owner_of owners) i j
  unfolding passes_on as_marked shares
  passes_shares i j = refl
