-- What is taken off, by counts of agent i's chores and of the difficult ones among them.
-- Assumes nothing.
use Prim.Native.Nat.{ℕ, ◌+◌, ◌*◌, ◌-◌, ◌≤◌, ◌<◌, min}
use mathlib.Core.Bool.{cond}
use mathlib.Core.List.{List}
use mathlib.Core.Path.{◌≡◌, refl, sym, ap₂, ◌∙◌}
use native.Mathlib.Omega.{arith}
use Rattle.finite.specs.Sums.{count_to}
use Rattle.finite.proofs.Tests.{and_elim}
use Rattle.finite.proofs.Below.{by_less}
use Rattle.finite.proofs.Packed.{digit_below}
use Rattle.finite.proofs.Counts.{count_zero, count_next, count_hit, count_miss, count_le, count_mono, count_longer}
use Rattle.model.specs.Instance.{owner_of}
use Rattle.model.specs.Sheet.{chores_of, easy_weight, difficult_weight, is_difficult, as_marked}
use Rattle.model.specs.Fairness.{owns, bundle_size}
use Rattle.welfare.proofs.Costs.{owned_by, owned_not}
use Rattle.welfare.proofs.OffCounts.{off_by_counts}
use Rattle.given.specs.Given.{Given}
use Rattle.given.specs.Burdens.{burdens}
use Rattle.given.proofs.Burdens.{burdens_other, burdens_mark}
use Rattle.evenness.specs.Off.{Off}

-- a mark that was read is 0 or 1
pub mark_below : (s : List ℕ) (i c : ℕ) {mark : ℕ} → mark ≡ cond (is_difficult s i c) 1 0 → mark < 2
mark_below s i c read = rw read (digit_below (is_difficult s i c))

-- of the first c chores so many are agent i's, and so many of these difficult for it
pub record Counted (s owners : List ℕ) (i c held difficult : ℕ) : Type 0 where
  pub all : held ≡ count_to c (owns (owner_of owners) i)
  pub difficults : difficult ≡ count_to c (burdens s owners i)

module _ (s owners : List ℕ) (i : ℕ) where
  pub counted_none : Counted s owners i 0 0 0
  counted_none = record { all = sym (count_zero _); difficults = sym (count_zero _) }

  module _ {c held difficult : ℕ} (k : Counted s owners i c held difficult) where
    pub few-held : held ≤ c
    few-held = rw k.all (count_le c _)

    pub few_difficult : difficult ≤ c
    few_difficult = rw k.difficults (count_le c _)

    pub counted_own : {mark : ℕ} → owner_of owners c ≡ i → mark ≡ cond (is_difficult s i c) 1 0 → Counted s owners i (c + 1) (held + 1) (difficult + mark)
    counted_own mine read =
        record {
          all = ap₂ ◌+◌ k.all refl ∙ sym (count_hit c _ (owned_by (owner_of owners) i c mine));
          difficults = ap₂ ◌+◌ k.difficults (rw (burdens_mark s owners i c mine) read) ∙ sym (count_next c _);
        }

    pub counted_other : (owner_of owners c ≡ i → ⊥) → Counted s owners i (c + 1) held difficult
    counted_other other =
        record {
          all = k.all ∙ sym (count_miss c _ (owned_not (owner_of owners) i c other));
          difficults = k.difficults ∙ sym (count_miss c _ (burdens_other s owners i c other));
        }

    difficults_held : difficult ≤ held
    unfolding burdens
    difficults_held =
        rw (k.all, k.difficults) (count_mono c (burdens s owners i) (owns (owner_of owners) i) (λ d _ p. (and_elim (owns (owner_of owners) i d) _ p).0))

module _ {s owners : List ℕ} (g : Given s owners) (i : ℕ) where
  -- the count stops at t difficult chores, or goes to the end
  pub off_counted : {t c held difficult count : ℕ} → Counted s owners i c held difficult → c ≤ chores_of s → difficult ≤ t → (difficult < t → c ≡ chores_of s) → count ≡ min held t → Off s owners t i (count * easy_weight s + difficult * (difficult_weight s - easy_weight s))
  unfolding as_marked burdens bundle_size
  off_counted {t} {c} {held} {difficult} {count} k inside few whole e =
      let x = owner_of owners in
      let T = count_to (chores_of s) (owns x i) in
      let H = count_to (chores_of s) (burdens s owners i) in
      let counted : (count ≡ min t T) × (difficult ≡ min t H) =
      by_less difficult t
      (λ l.
      let done = whole l in
      (omega (arith, e, rw done at k.all), omega (arith, rw done at k.difficults)))
      (λ l.
      let held-there = count_longer (owns x i) inside in
      let difficult-there = count_longer (burdens s owners i) inside in
      (omega (arith, e, k.all, held-there, difficults_held s owners i k), omega (arith, k.difficults, difficult-there))) in
      record { whole = rw (counted.0, counted.1) (off_by_counts (as_marked s) i g.valid.easier x t) }
