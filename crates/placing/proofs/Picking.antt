-- Of the numbers below n that pass a test, one that no other has a better key than: what `(0..n).filter(..).min_by_key(..)` answers.
-- Assumes nothing.
use Rattle.std.specs.Prelude.{ℕ, zero, suc, ◌≤◌, ◌<◌, Bool, true, false, ◌≡◌, List, [], ◌∷◌, length, get_or, Option, Some, None, MatchOption, option_map, refl}
use Rattle.std.proofs.Common.{arith, Ordering, sym, ap, ◌∙◌}
use Rattle.std.proofs.lemmas.List.Elements.{filter_passes}
use Rattle.std.specs.List.{Contains, FoldsTo, filter}
use Rattle.std.specs.Iterator.{Yields, KeyTurn, CallableInMinByKey}
use Rattle.std.specs.Ordering.{min_by_ordering}
use Rattle.std.specs.Iterator.Runs.{Run, SomeRun, WholeRun, EachRunFrom, AnyItem, IsFilterRun, NoKeyBeyond}
use Rattle.std.specs.Iterator.Adapters.{filter_source, filter_steps}
use Rattle.std.specs.Fn.{CalledAt, TakesAt}
use Rattle.std.specs.declared.iter.Filter.{Filter}
use Rattle.std.specs.declared.ops.Range.{Range}
use Rattle.std.proofs.iter.Yields.{nat_range_steps}
use Rattle.std.proofs.iter.runs.Sources.{range_runs}
use Rattle.finite.proofs.Tests.{by_test, not_yes}
use denote.Ref.{Bor}
use denote.Param.Members.{Mut}

-- what passes stays
kept : (t : ℕ → Bool) (xs : List ℕ) (k x : ℕ) → k < length xs → get_or xs k x ≡ x → t x ≡ true → Contains (filter t xs) x
kept t [] k x l at pass = absurd (omega arith)
kept t (y ∷ ys) zero x l at pass =
    let here : t y ≡ true = ap t at ∙ pass in
    rw here (0, omega arith, at)
kept t (y ∷ ys) (suc k) x l at pass =
    let rest = kept t ys k x (omega arith) at pass in
    by_test (t y)
    (λ e. rw e (suc rest.0, omega (arith, rest.1), rest.2))
    (λ e. rw e rest)

as_is : {A : Type 0} (o : Option A) (x : A) → option_map (λ y. y) o ≡ Some x → o ≡ Some x
as_is None x e = cc
as_is (Some y) x e = e

-- an item of a run, by its place
item : {S : Type 0} {steps : S → Option ℕ → S → Type 0} (p : Run steps) (k d : ℕ) → k < p.len → p.at k ≡ Some (get_or p.items k d)
item p k d l = as_is (p.at k) (get_or p.items k d) (p.reads k d l)

-- a run over the numbers below n
module _ {n : ℕ} (q : Run nat_range_steps) (from : q.from ≡ record { start = 0; end = n }) where
  start : q.from.start ≡ 0
  start = ap (λ (s : Range ℕ). s.start) from

  end : q.from.end ≡ n
  end = ap (λ (s : Range ℕ). s.end) from

  number : (k : ℕ) → k < q.len → q.at k ≡ Some k
  number k l = as_is (q.at k) k ((range_runs q q.seen).3 k l ∙ ap Some (omega (arith, start)))

  all : q.whole ≡ true → q.len ≡ n
  all w = omega (arith, (range_runs q q.seen).1 w, start, end)

  few : q.len ≤ n
  few = omega (arith, (range_runs q q.seen).0, start, end)

module _ {G : Type 0} {g : Mut G (Bor ℕ × Unit {0}) Bool} {n : ℕ} {h : G} (t : ℕ → Bool) (p : Run (filter_steps nat_range_steps g)) (d : SomeRun nat_range_steps (record { start = 0; end = n }) (λ q. IsFilterRun p q g h)) (tests : (x : ℕ) (b : Bool) (q : G) → CalledAt g h x b q → (q ≡ h) × (b ≡ t x)) where
  -- each item of the filter is below n and passes
  passes : (k x : ℕ) → k < p.len → p.at k ≡ Some x → (x < n) × (t x ≡ true)
  passes k x l at =
      let q = d.0 in
      let same : p.items ≡ filter t q.items = d.2.4 t tests in
      let from = rw at at (d.2.2 k) in
      let place = number q d.1 from.0 from.1 in
      let is : from.0 ≡ x = rw place at from.2 in
      let read = item p k x l in
      let here : x ≡ get_or (filter t q.items) k x = let e = ap (λ xs. get_or xs k x) same in cc in
      let inside : k < length (filter t q.items) = omega (arith, p.long, ap length same) in
      (omega (arith, few q d.1, from.1), rw here (filter_passes t q.items k x inside))

  -- and each number that is and does is an item
  there : p.whole ≡ true → (x : ℕ) → x < n → t x ≡ true → (k : ℕ) × (k < p.len) × (p.at k ≡ Some x)
  there w x l pass =
      let q = d.0 in
      let same : p.items ≡ filter t q.items = d.2.4 t tests in
      let inside : x < q.len = omega (arith, all q d.1 (d.2.0 ∙ w)) in
      let read : get_or q.items x x ≡ x = let here = number q d.1 x inside in let e = item q x x inside in cc in
      let found = kept t q.items x x (omega (arith, q.long)) read pass in
      let place : found.0 < p.len = omega (arith, p.long, ap length same, found.1) in
      let at = item p found.0 x place in
      (found.0, place, at ∙ ap Some (ap (λ xs. get_or xs found.0 x) same ∙ found.2))

  -- an answer of nothing tells that no number passes
  none_passes : p.whole ≡ true → p.len ≡ 0 → (k : ℕ) → k < n → t k ≡ false
  none_passes w none k l = not_yes (t k) (λ pass. let found = there w k l pass in let no : ⊥ = omega (arith, none, found.1) in no)

pub some_in : {G : Type 0} {g : Mut G (Bor ℕ × Unit {0}) Bool} {n : ℕ} (P : Run (filter_steps nat_range_steps g) → ℕ → Type 0) (t : ℕ → Bool) (z : Filter (Range ℕ) G) (h : G) (r : Option ℕ)
    → EachRunFrom (filter_steps nat_range_steps g) z (λ p. SomeRun nat_range_steps (record { start = 0; end = n }) (λ q. IsFilterRun p q g h))
    → WholeRun (filter_steps nat_range_steps g) z (λ p. MatchOption r (p.len ≡ 0) (P p))
    → ((x : ℕ) (b : Bool) (q : G) → CalledAt g h x b q → (q ≡ h) × (b ≡ t x))
    → MatchOption r ((k : ℕ) → k < n → t k ≡ false) (λ j. Unit {0})
some_in P t z h None each (p, from, whole, none) tests = none_passes t p (each p p.seen from) tests whole none
some_in P t z h (Some j) each d tests = tt

pub picked_in : {F G K : Type 0} {g : Mut G (Bor ℕ × Unit {0}) Bool} {gk : Mut F (Bor ℕ × Unit {0}) K} {n : ℕ} (beyond : Ordering → Bool) (cmp : K → K → Ordering) (t : ℕ → Bool) (key : ℕ → K) (z : Filter (Range ℕ) G) (h : G) (f : F) (r : Option ℕ)
    → EachRunFrom (filter_steps nat_range_steps g) z (λ p. SomeRun nat_range_steps (record { start = 0; end = n }) (λ q. IsFilterRun p q g h))
    → WholeRun (filter_steps nat_range_steps g) z (λ p. MatchOption r (p.len ≡ 0) (λ m. AnyItem p (λ x. x ≡ m) × NoKeyBeyond p gk f beyond cmp m))
    → ((x : ℕ) (b : Bool) (q : G) → CalledAt g h x b q → (q ≡ h) × (b ≡ t x))
    → ((x : ℕ) (k : K) (q : F) → CalledAt gk f x k q → (q ≡ f) × (k ≡ key x))
    → MatchOption r ((k : ℕ) → k < n → t k ≡ false) (λ j. (j < n) × (t j ≡ true) × ((k : ℕ) → k < n → t k ≡ true → beyond (cmp (key k) (key j)) ≡ false))
picked_in beyond cmp t key z h f None each (p, from, whole, none) tests keys = none_passes t p (each p p.seen from) tests whole none
picked_in beyond cmp t key z h f (Some j) each (p, from, whole, best) tests keys =
    let d = each p p.seen from in
    let place = best.0 in
    let read = item p place.0 j place.1 in
    let is : get_or p.items place.0 j ≡ j = rw read at place.2 in
    let told = passes t p d tests place.0 j place.1 (read ∙ ap Some is) in
    let keyed = best.1 (λ a k q c. (keys a.0.now k q (record { shown = a.0; shows = refl; called = c })).0) in (
      told.0,
      told.1,
      λ k l pass.
          let found = there t p d tests whole k l pass in
          let other = rw found.2 at (keyed.2 found.0) in
          rw (← (keys k other.0 f other.1).1, ← (keys j keyed.0 f keyed.1).1) other.2,
    )

-- `min_by_key` may call its closure at each number that the filter lets through, since these are below n
range_kept : (s t : Range ℕ) (xs : List ℕ) → Yields nat_range_steps s xs t → t.end ≡ s.end
range_kept s t [] y = ap (λ (r : Range ℕ). r.end) (sym y)
range_kept s t (x ∷ xs) y = range_kept y.0 t xs y.2 ∙ y.1.0

module _ {G : Type 0} (g : Mut G (Bor ℕ × Unit {0}) Bool) where
  -- one call of the filter's `next` that gives x
  given : (z u : Filter (Range ℕ) G) (x : ℕ) → filter_steps nat_range_steps g z (Some x) u → (x < (filter_source z).end) × ((filter_source u).end ≡ (filter_source z).end)
  given z u x s =
      let inner = s.2 in
      let end = range_kept (filter_source z) inner.0 s.0 inner.1 in
      (omega (arith, end, inner.2.1.0, inner.2.1.1), inner.2.0 ∙ end)

  filter_kept : (z u : Filter (Range ℕ) G) (xs : List ℕ) → Yields (filter_steps nat_range_steps g) z xs u → (filter_source u).end ≡ (filter_source z).end
  filter_kept z u [] y = ap (λ (r : Filter (Range ℕ) G). (filter_source r).end) (sym y)
  filter_kept z u (x ∷ xs) y = filter_kept y.0 u xs y.2 ∙ (given z y.0 x y.1).1

module _ {F K : Type 0} {gk : Mut F (Bor ℕ × Unit {0}) K} (cmp : K → K → Ordering) (f : F) (stays : (x : ℕ) (k : K) (q : F) → CalledAt gk f x k q → q ≡ f) where
  closure_kept : (p q : (F × K) × ℕ) (xs : List ℕ) → FoldsTo {P = (F × K) × ℕ} (KeyTurn min_by_ordering min_by_ordering gk cmp) p xs q → p.0.0 ≡ f → q.0.0 ≡ f
  closure_kept p q [] y e = ap (λ (r : (F × K) × ℕ). r.0.0) (sym y) ∙ e
  closure_kept p q (x ∷ xs) y e = closure_kept y.0 q xs y.2 (stays x y.1.0 y.0.0.0 (rw e at y.1.2))

  pub keyed_in : {G : Type 0} {g : Mut G (Bor ℕ × Unit {0}) Bool} (n : ℕ) (z : Filter (Range ℕ) G) → filter_source z ≡ record { start = 0; end = n } → ((x : ℕ) → x < n → TakesAt gk f x) → CallableInMinByKey (filter_steps nat_range_steps g) gk cmp z f
  keyed_in {g = g} n z from takes =
      let end : (filter_source z).end ≡ n = ap (λ (r : Range ℕ). r.end) from in
      λ x t s.
      let one = given g z t x s in (
        takes x (rw end at one.0),
        λ k f' called. record {
          at = λ xs u q y v ys folds step.
              let now : q.0.0 ≡ f = closure_kept ((f', k), x) q xs folds (stays x k f' called) in
              let below : y < n = omega (arith, (given g u v y step).0, filter_kept g t u xs ys, one.1, end) in
              rw now (takes y below);
        },
      )
