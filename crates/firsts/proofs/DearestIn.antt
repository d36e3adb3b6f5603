-- The dearest chore of an agent read off the set of its chores' traits is the dearest.
-- Assumes nothing.
use Prim.Native.Nat.{ℕ, ◌-◌, ◌≤◌, ◌<◌}
use mathlib.Core.Bool.{Bool, true, false, cond, ◌&&◌}
use mathlib.Core.List.{List}
use mathlib.Core.Logic.{◌⊎◌, ⊎_elim}
use mathlib.Core.Path.{◌≡◌, refl, sym, ap, ap₂, ◌∙◌}
use native.Mathlib.Nat.{le_antisymm}
use native.Mathlib.Omega.{arith}
use lib.Dec.{eqb}
use lib.ListN.{length, get_or}
use borrow.Author.Tests.{eq-eqb, eqb-true, eqb-false}
use Rattle.finite.specs.Bits.{bit}
use Rattle.finite.specs.Lists.{Table}
use Rattle.finite.specs.Search.{any_below}
use Rattle.finite.specs.Sums.{sum_where, max_where}
use Rattle.finite.proofs.Tests.{by_cond, clash, and_elim, and_intro}
use Rattle.finite.proofs.Search.{any_elim, any_none, any_cong}
use Rattle.finite.proofs.Extremes.{peak_above, peak_at_most}
use Rattle.finite.proofs.Where.{where_empty, where_positive, peak_within}
use Rattle.model.specs.Limits.{max_agents}
use Rattle.model.specs.Instance.{price_of}
use Rattle.model.specs.Fairness.{owns, total}
use Rattle.model.specs.Prices.{price_sum, dearest, price_up_to_one}
use Rattle.firsts.specs.Traits.{trait_count, top_trait, mid_trait, trait_in, has_trait}
use Rattle.firsts.specs.Table.{Row, Firsts}
use Rattle.firsts.specs.Dearest.{dearest_in, Weighing, Weighed}

-- the two traits that tell a chore's price
module _ (prices entitled likes : List ℕ) (free grouped mid top : ℕ) where
  pub top_trait_lem : (c : ℕ) → has_trait prices entitled likes free grouped mid top top_trait c ≡ eqb (price_of prices c) top
  unfolding has_trait trait_in price_of
  top_trait_lem c = refl

  pub mid_trait_lem : (c : ℕ) → has_trait prices entitled likes free grouped mid top mid_trait c ≡ eqb (price_of prices c) mid
  unfolding has_trait trait_in price_of
  mid_trait_lem c = refl

-- a set with a bit that says whether some chore of a price is owned
module _ (m : ℕ) (own : ℕ → Bool) (p : ℕ → ℕ) {v : ℕ} {b : Bool} (e : b ≡ any_below m (λ c. own c && eqb (p c) v)) where
  -- one is: the dearest is at least as dear
  some_at : b ≡ true → v ≤ max_where m own p
  some_at h =
      let r = any_elim m (λ c. own c && eqb (p c) v) (sym e ∙ h) in
      let both = and_elim (own r.index) (eqb (p r.index) v) r.passes in
      rw (← eqb-true (p r.index) v both.1) (peak_above own p r.index r.below both.0)

  -- none is
  none_at : b ≡ false → (c : ℕ) → c < m → own c ≡ true → p c ≡ v → ⊥
  none_at h c l o q = clash (and_intro o (eq-eqb (p c) v q)) (any_none m (λ c. own c && eqb (p c) v) (sym e ∙ h) c l)

module _
    {m w low mid top : ℕ}
    (x : ℕ → ℕ)
    {p : ℕ → ℕ}
    {trait : ℕ → ℕ → Bool}
    {first sets : List ℕ}
    (r : Row m (owns x w) trait w first sets)
    (is_top : (c : ℕ) → c < m → trait top_trait c ≡ eqb (p c) top)
    (is_mid : (c : ℕ) → c < m → trait mid_trait c ≡ eqb (p c) mid)
    (three : (c : ℕ) → c < m → (p c ≡ low) ⊎ ((p c ≡ mid) ⊎ (p c ≡ top)))
    (low≤mid : low ≤ mid)
    (mid≤top : mid ≤ top) where
  -- what a price's bit says
  has : (t v : ℕ) → t < trait_count → ((c : ℕ) → c < m → trait t c ≡ eqb (p c) v) → bit (get_or sets w 0) t ≡ any_below m (λ c. owns x w c && eqb (p c) v)
  has t v l e = r.some.member t l ∙ any_cong m (λ c h. ap (λ b. owns x w c && b) (e c h))

  has_top : bit (get_or sets w 0) top_trait ≡ any_below m (λ c. owns x w c && eqb (p c) top)
  has_top = has top_trait top (omega arith) is_top

  has_mid : bit (get_or sets w 0) mid_trait ≡ any_below m (λ c. owns x w c && eqb (p c) mid)
  has_mid = has mid_trait mid (omega arith) is_mid

  -- a price by cases
  by_price {ℓ} : {A : Type ℓ} (c : ℕ) → c < m → (p c ≡ low → A) → (p c ≡ mid → A) → (p c ≡ top → A) → A
  by_price c l at_low at_mid at_top = ⊎_elim at_low (⊎_elim at_mid at_top) (three c l)

  at_most_top : (c : ℕ) → c < m → owns x w c ≡ true → p c ≤ top
  at_most_top c l o = by_price c l (λ e. omega arith) (λ e. omega arith) (λ e. omega arith)

  module _ (no_top : bit (get_or sets w 0) top_trait ≡ false) where
    at_most_mid : (c : ℕ) → c < m → owns x w c ≡ true → p c ≤ mid
    at_most_mid c l o = by_price c l (λ e. omega arith) (λ e. omega arith) (λ e. absurd (none_at m (owns x w) p has_top no_top c l o e))

    module _ (no_mid : bit (get_or sets w 0) mid_trait ≡ false) where
      is_low : (c : ℕ) → c < m → owns x w c ≡ true → p c ≡ low
      is_low c l o =
          by_price c l (λ e. e)
          (λ e. absurd (none_at m (owns x w) p has_mid no_mid c l o e))
          (λ e. absurd (none_at m (owns x w) p has_top no_top c l o e))

      -- none of the two: nothing is owned, or all is low
      low_in : {sum : ℕ} → sum ≡ sum_where m (owns x w) p → cond (eqb sum 0) 0 low ≡ max_where m (owns x w) p
      low_in {sum} s =
          by_cond (λ v. v ≡ max_where m (owns x w) p) (eqb sum 0) _ _
          (λ h. let none = where_empty m (owns x w) p (sym s ∙ eqb-true sum 0 h) in
          le_antisymm (omega arith) (peak_at_most m (owns x w) (λ c l o. omega (arith, none c l o))))
          λ h.
          let some : sum ≡ 0 → ⊥ = eqb-false sum 0 h in
          let q = where_positive m (owns x w) p (omega (arith, s)) in
          le_antisymm (rw (← is_low q.index q.below q.passes) (peak_above (owns x w) p q.index q.below q.passes))
          (peak_at_most m (owns x w) (λ c l o. omega (arith, is_low c l o)))

  pub dearest_in_lem : {sum : ℕ} → sum ≡ price_sum m x p w → dearest_in (get_or sets w 0) sum low mid top ≡ dearest m x p w
  unfolding dearest_in dearest total
  dearest_in_lem s =
      let own = owns x w in
      by_cond (λ v. v ≡ max_where m own p) (bit (get_or sets w 0) top_trait) _ _
      (λ h. le_antisymm (some_at m own p has_top h) (peak_at_most m own at_most_top))
      λ no_top.
      by_cond (λ v. v ≡ max_where m own p) (bit (get_or sets w 0) mid_trait) _ _
      (λ h. le_antisymm (some_at m own p has_mid h) (peak_at_most m own (at_most_mid no_top)))
      λ no_mid. low_in no_top no_mid s

  -- it is part of the sum
  pub dearest_part : {sum : ℕ} → sum ≡ price_sum m x p w → dearest_in (get_or sets w 0) sum low mid top ≤ sum
  unfolding dearest total
  dearest_part s = rw (dearest_in_lem s, s) (peak_within m (owns x w) p)

  -- and what is left is the price up to one
  pub dearest_rest : {sum : ℕ} → sum ≡ price_sum m x p w → sum - dearest_in (get_or sets w 0) sum low mid top ≡ price_up_to_one m x p w
  unfolding price_up_to_one
  dearest_rest s = ap₂ (λ a b. a - b) s (dearest_in_lem s)

-- what `rests` asks and leaves, where the sums and the table are those of n agents
module _
    {n m low mid top : ℕ}
    {x p : ℕ → ℕ}
    {trait : ℕ → ℕ → Bool}
    {first sets sums ups : List ℕ}
    (few : n ≤ max_agents)
    (f : Firsts n m x trait first sets)
    (is_top : (c : ℕ) → c < m → trait top_trait c ≡ eqb (p c) top)
    (is_mid : (c : ℕ) → c < m → trait mid_trait c ≡ eqb (p c) mid)
    (three : (c : ℕ) → c < m → (p c ≡ low) ⊎ ((p c ≡ mid) ⊎ (p c ≡ top)))
    (low≤mid : low ≤ mid)
    (mid≤top : mid ≤ top)
    (s : Table max_agents (price_sum m x p) sums) where
  pub weighing : length ups ≡ max_agents → Weighing n sums sets ups low mid top
  weighing size =
      record {
        agents = few;
        sums_fit = omega (arith, s.size);
        sets_fit = omega (arith, f.sized.sets_sized);
        ups_sized = size;
        part = λ i l. dearest_part x (f.row i l) is_top is_mid three low≤mid mid≤top (s.entry i (omega arith));
      }

  pub weighed_up : Weighed n sums sets ups low mid top → (i : ℕ) → i < n → get_or ups i 0 ≡ price_up_to_one m x p i
  weighed_up d i l = d.rest i l ∙ dearest_rest x (f.row i l) is_top is_mid three low≤mid mid≤top (s.entry i (omega arith))
