-- Laws of worths: they decide which chores are best, and the greatest are found byte by byte of the rows.
-- Assumes nothing.
use Prim.Native.Nat.{ℕ, ◌+◌, ◌*◌, ◌-◌, ◌≤◌, ◌<◌, max}
use mathlib.Core.Bool.{Bool, true, false, cond}
use mathlib.Core.List.{List}
use mathlib.Core.Path.{◌≡◌, sym, ap, ◌∙◌}
use native.Mathlib.Nat.{le_refl, le_trans, mul_comm, mul-pos, mul-le-mul_left}
use native.Mathlib.Omega.{arith}
use lib.Dec.{leb, eqb}
use lib.ListN.{get_or, replicate}
use Rattle.finite.specs.Sums.{max_to}
use Rattle.finite.specs.Bits.{bit}
use Rattle.finite.specs.Packed.{bytes_for}
use Rattle.finite.proofs.Tests.{by_test, cond-le, le-cond, cond-not, leb_scaled}
use Rattle.finite.proofs.Below.{by_less}
use Rattle.finite.proofs.Search.{all_cong}
use Rattle.finite.proofs.Extremes.{top_zero, top_next, top_add, top_leb, top_above, top_at_most, top_cong}
use Rattle.finite.proofs.Sweeps.{table_zeros}
use Rattle.finite.proofs.Bits.{bit_zero}
use Rattle.finite.proofs.Packed.{digit_is}
use Rattle.model.specs.Limits.{max_agents, max_weight}
use Rattle.model.specs.Instance.{Instance, cost, price_of}
use Rattle.model.specs.Sheet.{agents_of, chores_of, easy_weight, difficult_weight, row_of, marks_easy, as_marked}
use Rattle.model.specs.Prices.{ratio_at_most, best}
use Rattle.welfare.proofs.Costs.{Weighted}
use Rattle.sheet.proofs.Marks.{mark_in_row}
use Rattle.given.specs.Given.{Weighed}
use Rattle.given.proofs.Costs.{weighed_easier, read_marked}
use Rattle.pricecheck.specs.Worths.{worth, Weighable, worth_in, UpToEight, Column, greatest_to, Greatest}

module _ (I : Instance) (w : Weighted I) (p : ℕ → ℕ) (i : ℕ) where
  -- the weight that a chore does not cost
  other : ℕ → ℕ
  other c = cond (I.easy i c) I.b I.a

  cost_other : (c : ℕ) → cost I i c * other c ≡ I.a * I.b
  unfolding cost other
  cost_other c = by_test (I.easy i c) (λ e. rw e) (λ e. rw e (mul_comm I.b I.a))

  difficult_positive : 0 < I.b
  difficult_positive = omega (arith, w.easy_positive_lem, w.easy_least)

  other_positive : (c : ℕ) → 0 < other c
  unfolding other
  other_positive c = le-cond (I.easy i c) (λ _. difficult_positive) (λ _. w.easy_positive_lem)

  -- the lesser ratio has the greater worth
  ratio_is : (c d : ℕ) → ratio_at_most I p i c d ≡ leb (worth I p i d) (worth I p i c)
  unfolding ratio_at_most worth other
  ratio_is c d =
      leb_scaled {k = other c * other d} {l = I.a * I.b} (cost I i c * p d) (cost I i d * p c) (p d * other d) (p c * other c) (omega (arith, ap (λ t. t * (p d * other d)) (cost_other c))) (omega (arith, ap (λ t. t * (p c * other c)) (cost_other d))) (mul-pos (other_positive c) (other_positive d)) (mul-pos w.easy_positive_lem difficult_positive)

  -- a chore is best where none is worth more
  pub best_is : (c : ℕ) → best I p i c ≡ leb (max_to I.m (worth I p i)) (worth I p i c)
  unfolding best
  best_is c = all_cong I.m (λ d _. ratio_is c d) ∙ top_leb I.m (worth I p i) (worth I p i c)

-- the weight that a mark does not cost
pub weight_left : (a b : ℕ) {cost : ℕ} (t : Bool) → cost ≡ cond t b a → (cost ≤ a + b) × (a + b - cost ≡ cond t a b)
weight_left a b true e = (omega arith, omega arith)
weight_left a b false e = (omega arith, omega arith)

-- the chore at place j of at most eight, and its mark in a byte
module _ {prices : List ℕ} {a b first count : ℕ} (e : UpToEight prices a b first count) (byte j : ℕ) {mark : ℕ} (read : mark ≡ cond (bit byte (7 - j)) 1 0) where
  pub place_weighable : j < count → Weighable (get_or prices (first + j) 0) a b mark
  place_weighable l =
      record {
        priced = e.bounded (first + j) (omega (arith, e.inside));
        marked = read_marked e.easier (bit byte (7 - j)) read;
        fits = e.fits;
      }

  place_worth : get_or prices (first + j) 0 * cond (eqb mark 1) a b ≡ worth_in a b prices first byte j
  unfolding worth_in price_of
  place_worth = rw (read, digit_is (bit byte (7 - j)))

  -- with it
  pub place_next : (known : ℕ) {greatest value : ℕ} → greatest ≡ max known (max_to j (worth_in a b prices first byte)) → value ≡ get_or prices (first + j) 0 * cond (eqb mark 1) a b → max greatest value ≡ max known (max_to (j + 1) (worth_in a b prices first byte))
  place_next known {greatest} {value} so_far is =
      let here : value ≡ worth_in a b prices first byte j = is ∙ place_worth in
      omega (arith, so_far, here, top_next j (worth_in a b prices first byte))

-- to nobody are chores worth more than if all are marked easy
easy_most : {a b : ℕ} (prices : List ℕ) (first byte j : ℕ) → a ≤ b → worth_in a b prices first byte j ≤ worth_in a b prices first 0 j
unfolding worth_in
easy_most prices first byte j le =
    rw (bit_zero (7 - j)) (mul-le-mul_left (price_of prices (first + j)) (cond-le (bit byte (7 - j)) (λ _. le) (λ _. le_refl _)))

pub weighed_fits : {s : List ℕ} {a b : ℕ} → Weighed s a b → b ≤ max_weight
weighed_fits w = rw w.difficult w.valid.weight_fits

-- the chores of a column
module _ {s prices : List ℕ} {k count : ℕ} (col : Column s prices k count) {a b : ℕ} (w : Weighed s a b) where
  pub column_eight : UpToEight prices a b (8 * k) count
  column_eight =
      record {
        easier = weighed_easier w;
        fits = weighed_fits w;
        few = col.few;
        inside = rw col.priced.size col.inside;
        bounded = λ c l. col.priced.bounded c (rw col.priced.size at l);
      }

  in_byte : (i j : ℕ) → j < 8 → worth (as_marked s) (price_of prices) i (8 * k + j) ≡ worth_in a b prices (8 * k) (get_or (row_of s i) k 0) j
  unfolding worth worth_in as_marked marks_easy
  in_byte i j l =
      rw (mark_in_row s i k j l, w.easy, w.difficult, cond-not (bit (get_or (row_of s i) k 0) (7 - j)) (difficult_weight s) (easy_weight s))

  -- the greatest worth with them
  with_column : (i : ℕ) → greatest_to s prices (8 * k + count) i ≡ max (greatest_to s prices (8 * k) i) (max_to count (worth_in a b prices (8 * k) (get_or (row_of s i) k 0)))
  with_column i =
      top_add (8 * k) count (worth (as_marked s) (price_of prices) i)
      ∙ ap (max (greatest_to s prices (8 * k) i)) (top_cong count (λ j l. in_byte i j (omega (arith, col.few))))

  module _ (i : ℕ) {known : ℕ} (so_far : known ≡ greatest_to s prices (8 * k) i) where
    pub column_read : {byte r : ℕ} → byte ≡ get_or (row_of s i) k 0 → r ≡ max known (max_to count (worth_in a b prices (8 * k) byte)) → r ≡ greatest_to s prices (8 * k + count) i
    column_read read e = e ∙ rw (so_far, read) (sym (with_column i))

    -- no more even if all are marked easy
    pub column_passed : {most : ℕ} → most ≡ max 0 (max_to count (worth_in a b prices (8 * k) 0)) → most ≤ known → known ≡ greatest_to s prices (8 * k + count) i
    column_passed told l =
        let h = top_at_most count (λ j l. le_trans (easy_most prices (8 * k) (get_or (row_of s i) k 0) j (weighed_easier w)) (top_above (worth_in a b prices (8 * k) 0) j l)) in
        omega (arith, so_far, told, h, with_column i)

  -- if they are worth anything, rows have such a byte
  pub column_byte : (byte : ℕ) {known most : ℕ} → most ≡ max 0 (max_to count (worth_in a b prices (8 * k) byte)) → known < most → k < bytes_for (chores_of s)
  column_byte byte told l =
      let f = worth_in a b prices (8 * k) byte in
      by_less 0 count (λ some. omega (arith, col.inside))
      (λ none. let e : count ≡ 0 = omega arith in absurd (omega (arith, told, ap (λ c. max_to c f) e, top_zero f)))

-- no chore has been passed yet
pub greatest_none : {s prices greatest : List ℕ} → agents_of s ≤ max_agents → greatest ≡ replicate max_agents 0 → Greatest s prices 0 greatest
greatest_none {s} {prices} few e =
    let t = table_zeros {f = greatest_to s prices 0} (λ i. top_zero (worth (as_marked s) (price_of prices) i)) e in
    record { size = t.size; each = λ i l. t.entry i (omega arith) }
