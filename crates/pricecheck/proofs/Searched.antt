-- A search for the first pair that passes, by its first number and then by its second.
-- Assumes nothing.
use Rattle.std.specs.Prelude.{ℕ, ◌+◌, ◌≤◌, ◌<◌, Bool, true, false, ◌≡◌, Option, Some, None, MatchOption, IsTrue, option_map, refl}
use Rattle.std.proofs.Common.{arith, sym, ap, ◌∙◌}
use Rattle.std.specs.Iterator.Runs.{Run, SomeRun, AllItemsGive, IsFirstToGive}
use Rattle.std.specs.Fn.{Called}
use Rattle.std.specs.declared.ops.Range.{Range}
use Rattle.std.proofs.iter.Yields.{nat_range_steps}
use Rattle.std.proofs.iter.runs.Sources.{range_runs}
use denote.Param.Members.{Mut}
use borrow.Author.Tests.{lt-ltb, le-ltb}
use Rattle.finite.specs.Search.{any_below, first_below, if_below}
use Rattle.finite.proofs.Below.{by_less}
use Rattle.finite.proofs.Search.{first_le, first_none_intro, first_unique, any_first}
use Rattle.finite.proofs.Found.{below_some, below_none}
use Rattle.model.specs.Verdicts.{first_of_pair, second_of_pair}

as_is : {A : Type 0} (o : Option A) (x : A) → option_map (λ y. y) o ≡ Some x → o ≡ Some x
as_is None x e = cc
as_is (Some y) x e = e

-- the numbers of a run over those below n
module _ (n : ℕ) (p : Run nat_range_steps) (from : p.from ≡ record { start = 0; end = n }) where
  start : p.from.start ≡ 0
  start = ap (λ (s : Range ℕ). s.start) from

  end : p.from.end ≡ n
  end = ap (λ (s : Range ℕ). s.end) from

  at : (i : ℕ) → i < p.len → p.at i ≡ Some i
  at i l = as_is (p.at i) i ((range_runs p p.seen).3 i l ∙ ap Some (omega (arith, start)))

  few : p.len ≤ n
  few = omega (arith, (range_runs p p.seen).0, start, end)

  all : p.whole ≡ true → p.len ≡ n
  all w = omega (arith, (range_runs p p.seen).1 w, start, end)

-- `(0..n).find_map(|i| ..)`, whose closure computes the answer at each number
pub found_map_in : {F B : Type 0} {g : Mut F (ℕ × Unit {0}) (Option B)} (n : ℕ) (answer : ℕ → Option B) (f : F) (r : Option B)
    → SomeRun nat_range_steps (record { start = 0; end = n }) (λ p. MatchOption r (IsTrue p.whole × AllItemsGive p g f None) (λ y. (i : ℕ) × (i < p.len) × (p.len ≡ i + 1) × IsFirstToGive p g f (Some y) None i))
    → ((x : ℕ) (b : Option B) (q : F) → Called g f (x, tt) b q → (q ≡ f) × (b ≡ answer x))
    → MatchOption r ((i : ℕ) → i < n → answer i ≡ None) (λ y. (i : ℕ) × (i < n) × (answer i ≡ Some y) × ((k : ℕ) → k < i → answer k ≡ None))
found_map_in {F} {B} {g} n answer f r d calls = told r d.2
  where
    p : Run nat_range_steps
    p = d.0

    told : (r : Option B) → MatchOption r (IsTrue p.whole × AllItemsGive p g f None) (λ y. (i : ℕ) × (i < p.len) × (p.len ≡ i + 1) × IsFirstToGive p g f (Some y) None i) → MatchOption r ((i : ℕ) → i < n → answer i ≡ None) (λ y. (i : ℕ) × (i < n) × (answer i ≡ Some y) × ((k : ℕ) → k < i → answer k ≡ None))
    told None m = λ i l. let h = m.1 (λ a b q c. (calls a.0 b q c).0) i in sym (calls i None f (rw (at n p d.1 i (omega (arith, all n p d.1 m.0))) at h)).1
    told (Some y) m =
        let h = m.3 (λ a b q c. (calls a.0 b q c).0) in
        (m.0, omega (arith, few n p d.1, m.1), sym (calls m.0 (Some y) f (rw (at n p d.1 m.0 m.1) at h.0)).1, λ k l. sym (calls k None f (rw (at n p d.1 k (omega (arith, m.1))) at (h.1 k l))).1)

-- a first number that passes with some second, and the first of these; nothing where it passes with none
abbrev pub pair_at : ℕ → (ℕ → ℕ → Bool) → ℕ → Option (ℕ × ℕ)
pair_at n t i = option_map {U = ℕ × ℕ} (λ j. (i, j)) (if_below n (first_below n (t i)))

module _ (n : ℕ) (t : ℕ → ℕ → Bool) where
  none_at : (i : ℕ) → pair_at n t i ≡ None → any_below n (t i) ≡ false
  none_at i e =
      any_first n (t i)
      ∙ by_less (first_below n (t i)) n (λ l. let h = ap (option_map {U = ℕ × ℕ} (λ j. (i, j))) (below_some l) in cc) (λ l. le-ltb _ n l)

  some_at : (i : ℕ) {y : ℕ × ℕ} → pair_at n t i ≡ Some y → (first_below n (t i) < n) × (y ≡ (i, first_below n (t i)))
  some_at i e =
      by_less (first_below n (t i)) n
      (λ l. let h = ap (option_map {U = ℕ × ℕ} (λ j. (i, j))) (below_some l) in (l, cc))
      (λ l.
      let all : first_below n (t i) ≡ n = omega (arith, first_le n (t i)) in
      let h = ap (λ r. option_map {U = ℕ × ℕ} (λ j. (i, j)) (if_below n r)) all ∙ ap (option_map {U = ℕ × ℕ} (λ j. (i, j))) (below_none n) in
      cc)

  -- a search for the second number of a pair, within a search for the first
  pub pair_in : (r : Option (ℕ × ℕ)) → MatchOption r ((i : ℕ) → i < n → pair_at n t i ≡ None) (λ y. (i : ℕ) × (i < n) × (pair_at n t i ≡ Some y) × ((k : ℕ) → k < i → pair_at n t k ≡ None)) → MatchOption r (first_of_pair n t ≡ n) (λ p. (p.0 < n) × (p.1 < n) × (p.0 ≡ first_of_pair n t) × (p.1 ≡ second_of_pair n t))
  unfolding first_of_pair second_of_pair
  pair_in None none = first_none_intro n (λ i. any_below n (t i)) (λ i l. none_at i (none i l))
  pair_in (Some y) (i, l, here, before) =
      let at = some_at i here in
      let first : first_below n (λ i. any_below n (t i)) ≡ i = first_unique (record { below = l; passes = any_first n (t i) ∙ lt-ltb _ n at.0; before = λ k m. none_at k (before k m) }) in
      let left : y.0 ≡ i = ap (λ (p : ℕ × ℕ). p.0) at.1 in
      let right : y.1 ≡ first_below n (t i) = ap (λ (p : ℕ × ℕ). p.1) at.1 in
      (rw left l, rw right at.0, left ∙ sym first, right ∙ rw first refl)
