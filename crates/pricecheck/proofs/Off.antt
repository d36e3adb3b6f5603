-- The first chore that is not best for its owner.
-- Assumes nothing.
use Prim.Native.Nat.{ℕ, ◌*◌, ◌<◌}
use mathlib.Core.Bool.{Bool, cond, not}
use mathlib.Core.List.{List}
use mathlib.Core.Path.{◌≡◌, refl, sym}
use lib.Dec.{leb, ltb, eqb}
use lib.ListN.{get_or}
use borrow.Author.Tests.{lt-ltb, le-ltb, lt-leb, le-leb}
use Rattle.finite.proofs.Below.{by_less}
use Rattle.finite.proofs.Search.{first_cong}
use Rattle.finite.specs.Search.{first_below}
use Rattle.finite.proofs.Tests.{cond-not}
use Rattle.finite.proofs.Packed.{digit_is}
use Rattle.model.specs.Instance.{owner_of, price_of}
use Rattle.model.specs.Sheet.{agents_of, chores_of, easy_weight, difficult_weight, is_difficult, marks_easy, as_marked}
use Rattle.model.specs.Prices.{best}
use Rattle.model.specs.Verdicts.{first_off_price}
use Rattle.welfare.proofs.Costs.{marked_weighted}
use Rattle.given.specs.Given.{Weighed}
use Rattle.given.proofs.Given.{owner_below}
use Rattle.given.proofs.Costs.{weighed_easier, read_marked}
use Rattle.pricecheck.specs.Parts.{PricesGiven}
use Rattle.pricecheck.specs.Worths.{worth, Weighable, Greatest}
use Rattle.pricecheck.proofs.Worths.{best_is, weighed_fits}

-- what a search for such a chore tests: chore c is worth less to its owner than the greatest worth
abbrev pub worth_less : List ℕ → List ℕ → List ℕ → ℕ → ℕ → List ℕ → ℕ → Bool
worth_less s owners prices a b greatest c = ltb (get_or prices c 0 * cond (eqb (cond (is_difficult s (owner_of owners c) c) 1 0) 1) a b) (get_or greatest (owner_of owners c) 0)

not-leb : (x y : ℕ) → not (leb x y) ≡ ltb y x
not-leb x y = by_less y x (λ l. rw (lt-leb _ _ l, lt-ltb _ _ l)) (λ l. rw (le-leb _ _ l, le-ltb _ _ l))

module _ {s owners prices : List ℕ} (g : PricesGiven s owners prices) where
  pub owner_among : (c : ℕ) {i : ℕ} → c < chores_of s → i ≡ owner_of owners c → i < agents_of s
  owner_among c below own = rw own (owner_below g.given c below)

  module _ {a b : ℕ} (w : Weighed s a b) where
    -- chore c, its owner i, and i's mark for it
    pub off_weighable : (c : ℕ) {i mark : ℕ} → c < chores_of s → i ≡ owner_of owners c → mark ≡ cond (is_difficult s i c) 1 0 → Weighable (get_or prices c 0) a b mark
    off_weighable c {i} below own read =
        record {
          priced = g.priced.bounded c below;
          marked = read_marked (weighed_easier w) (is_difficult s i c) read;
          fits = weighed_fits w;
        }

    module _ {greatest : List ℕ} (all : Greatest s prices (chores_of s) greatest) where
      off_is : (c : ℕ) → c < chores_of s → worth_less s owners prices a b greatest c ≡ not (best (as_marked s) (price_of prices) (owner_of owners c) c)
      unfolding worth as_marked marks_easy price_of
      off_is c below =
          let i = owner_of owners c in
          sym (rw (best_is (as_marked s) (marked_weighted g.given.valid) (price_of prices) i c, not-leb, all.each i (owner_among c below refl), digit_is (is_difficult s i c), w.easy, w.difficult, cond-not (is_difficult s i c) (difficult_weight s) (easy_weight s)))

      -- the first is that of the definition
      pub off_first : first_below (chores_of s) (worth_less s owners prices a b greatest) ≡ first_off_price (as_marked s) (owner_of owners) (price_of prices)
      unfolding first_off_price as_marked
      off_first = first_cong (chores_of s) off_is
