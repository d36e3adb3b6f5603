-- Laws of the table's rows: the entries of a set of traits changed in a row, trait by trait.
-- Assumes nothing.
use Prim.Native.Nat.{ℕ, ◌+◌, ◌-◌, ◌*◌, ◌^◌, ◌<◌, min}
use mathlib.Core.Bool.{cond, ◌&&◌}
use mathlib.Core.List.{List}
use mathlib.Core.Path.{◌≡◌, refl, sym, ap, ◌∙◌}
use native.Mathlib.Nat.{lt_of_le_of_lt}
use native.Mathlib.Omega.{arith}
use lib.Bits.{bit_or}
use lib.Dec.{eqb}
use lib.ListN.{length, get_or, set, length-set}
use lib.Seq.{get_or-set_same, get_or-set_other}
use borrow.Author.Tests.{ne_eqb}
use Rattle.finite.specs.Bits.{bit}
use Rattle.finite.proofs.Tests.{and_no_right, cond_false, eqb_same}
use Rattle.finite.proofs.Below.{by_same}
use Rattle.finite.proofs.LowestBit.{Rest, set_bit_below, passed, rest_all, rest_next, passed_none, passed_all, passed_left, passed_here, passed_other}
use Rattle.model.specs.Limits.{max_agents}
use Rattle.firsts.specs.Traits.{trait_count}
use Rattle.firsts.specs.Bits.{NextBit}
use Rattle.firsts.specs.Table.{Spot, Put, Gained}

-- a place has one agent and one trait
same_place : {v w t k : ℕ} → t < trait_count → k < trait_count → v * trait_count + t ≡ w * trait_count + k → (v ≡ w) × (t ≡ k)
same_place h l e = (omega arith, omega arith)

-- the entry of each trait of `word` that is no longer in `rest` has become f of what it was
pub record Placing (w word rest : ℕ) (f : ℕ → ℕ) (first first' : List ℕ) : Type 0 where
  pub left : Rest word rest
  pub size : length first' ≡ length first
  pub entry :
      (v t : ℕ) → v < max_agents → t < trait_count
      → get_or first' (v * trait_count + t) 0 ≡ cond (eqb v w && passed word rest t) (f (get_or first (v * trait_count + t) 0)) (get_or first (v * trait_count + t) 0)

pub placing_none : (w word : ℕ) (f : ℕ → ℕ) (first : List ℕ) → Placing w word word f first first
placing_none w word f first =
    record { left = rest_all word; size = refl; entry = λ v t l m. sym (cond_false (f _) _ (and_no_right (eqb v w) (passed_none word t))) }

module _ {w word rest k left : ℕ} {f : ℕ → ℕ} {first first' : List ℕ} (spot : Spot first w word) (p : Placing w word rest f first first') (g : NextBit rest k left) where
  -- the trait that is given is one, and its place is in the table
  pub placing_below : k < trait_count
  placing_below = set_bit_below rest k g.lowest.passes (lt_of_le_of_lt p.left.small spot.traits)

  pub placing_room : w * trait_count + k < length first'
  placing_room = omega (arith, placing_below, spot.agent, spot.first_sized, p.size)

  -- a test of another place
  elsewhere : (v t : ℕ) → t < trait_count → (v * trait_count + t ≡ w * trait_count + k → ⊥) → eqb v w && passed word rest t ≡ eqb v w && passed word (rest - 2 ^ k) t
  elsewhere v t m ne =
      by_same v w
      (λ e. ap (λ b. eqb v w && b) (sym (passed_other k p.left g.lowest.passes t (λ q. ne (omega arith)))))
      (λ n. rw (ne_eqb v w n))

  -- an entry that is still to come is as it was
  to_come : get_or first' (w * trait_count + k) 0 ≡ get_or first (w * trait_count + k) 0
  to_come = p.entry w k spot.agent placing_below ∙ cond_false _ _ (and_no_right (eqb w w) (passed_left word rest k g.lowest.passes))

  pub placing-next : Placing w word left f first (set first' (w * trait_count + k) (f (get_or first' (w * trait_count + k) 0)))
  placing-next =
      let place = w * trait_count + k in
      let value = f (get_or first' place 0) in
      let dropped : left ≡ rest - 2 ^ k = omega (arith, g.dropped) in
      rw dropped record {
        left = rest_next k p.left g.lowest.passes;
        size = length-set first' place value ∙ p.size;
        entry = λ v t lv lt. by_same (v * trait_count + t) place
            (λ e. let q = same_place lt placing_below e in
            rw (e, get_or-set_same first' place value 0 placing_room, q.0, q.1, eqb_same w, passed_here k p.left g.lowest.passes) (ap f to_come))
            (λ ne. get_or-set_other first' place (v * trait_count + t) value 0 ne ∙ p.entry v t lv lt
            ∙ ap (λ b. cond b (f (get_or first (v * trait_count + t) 0)) (get_or first (v * trait_count + t) 0)) (elsewhere v t lt ne));
      }

-- nothing is left

placing-all :
    {w word : ℕ} {f : ℕ → ℕ} {first first' : List ℕ} → Placing w word 0 f first first' → (v t : ℕ) → v < max_agents → t < trait_count
    → get_or first' (v * trait_count + t) 0 ≡ cond (eqb v w && bit word t) (f (get_or first (v * trait_count + t) 0)) (get_or first (v * trait_count + t) 0)
placing-all {w} {word} {f} {first} p v t l m =
    p.entry v t l m ∙ ap (λ b. cond (eqb v w && b) (f (get_or first (v * trait_count + t) 0)) (get_or first (v * trait_count + t) 0)) (passed_all word t)

pub placed : {w c word : ℕ} {first first' : List ℕ} → Placing w word 0 (λ d. c) first first' → Put w c word first first'
placed p = record { size = p.size; entry = placing-all p }

-- the earlier chore is the first
pub gained :
    {w c word : ℕ} {first first' : List ℕ} (sets : List ℕ) → Placing w word 0 (min c) first first'
    → Gained w c word first sets first' (set sets w (bit_or (get_or sets w 0) word))
gained sets p = record { size = p.size; entry = placing-all p; some = refl }
