-- What a search below n answers: the number that it found, or nothing.
-- Assumes nothing.
use Rattle.std.specs.Prelude.{ℕ, ◌<◌, ◌≤◌, Bool, true, false, ◌≡◌, cond, List, Option, Some, None, MatchOption, MatchBool, length, get_or, refl}
use Rattle.std.proofs.Common.{arith, sym, ap, ◌∙◌}
use Rattle.std.specs.Iterator.{YieldsThen}
use Rattle.std.specs.List.{FoldsTo, range_with_len, HoldsAt, AllWithin}
use Rattle.std.specs.Fn.{Called, CalledAt}
use Rattle.std.specs.declared.ops.Range.{Range}
use Rattle.std.specs.declared.slice.Iter.{Iter}
use Rattle.std.specs.Slice.Iter.{iter_rest}
use Rattle.std.proofs.iter.Yields.{nat_range_steps, fronts}
use Rattle.std.specs.Prelude.{⊤}
use Rattle.std.proofs.lemmas.Iterator.{first_from_Range, cases_from_any, cases_from_all, YieldsList-from_range, YieldsList-from_slice}
use Rattle.std.proofs.lemmas.List.FromFn.{get_or-range_with_len, length-range_with_len}
use denote.Ref.{Bor}
use denote.Param.Members.{Mut}
use borrow.Author.Tests.{lt-ltb, le-ltb}
use Rattle.finite.specs.Search.{any_below, all_below, first_below, if_below}
use Rattle.finite.proofs.Below.{by_less}
use Rattle.finite.proofs.Search.{all_intro, all_fails_intro, any_intro, any_none_intro, first_none_intro, first_unique}

pub below_some : {n r : ℕ} → r < n → if_below n r ≡ Some r
unfolding if_below
below_some {n} {r} l = ap (λ b. cond b (Some r) None) (lt-ltb r n l)

below_past : {n r : ℕ} → n ≤ r → if_below n r ≡ None
unfolding if_below
below_past {n} {r} l = ap (λ b. cond b (Some r) None) (le-ltb r n l)

pub below_none : (n : ℕ) → if_below n n ≡ None
below_none n = below_past (omega arith)

-- and what the answer says of r
pub found_is : {n r i : ℕ} → Some i ≡ if_below n r → (i ≡ r) × (r < n)
found_is {n} {r} {i} e =
    by_less r n (λ l. let q = e ∙ below_some l in (cc, l))
    (λ l. let q = e ∙ below_past l in cc)

pub found_none : {n r : ℕ} → None ≡ if_below n r → n ≤ r
found_none {n} {r} e = by_less r n (λ l. let q = e ∙ below_some l in cc) (λ l. l)

-- `(0..n).find(|&i| ..)`, whose closure computes the test t
pub found_in : {F : Type 0} {g : Mut F (Bor ℕ × Unit {0}) Bool} (n : ℕ) (t : ℕ → Bool) (u : Range ℕ) (f : F) (r : Option ℕ)
    → (xs : List ℕ) × (j : F) × YieldsThen nat_range_steps (record { start = 0; end = n }) xs r u × FoldsTo (λ p x q. CalledAt g p x false q) f xs j × MatchOption r ⊤ (λ x. (h : F) × CalledAt g j x true h)
    → ((x : ℕ) (b : Bool) (q : F) → CalledAt g f x b q → (q ≡ f) × (b ≡ t x))
    → r ≡ if_below n (first_below n t)
found_in n t u f r d calls =
    answer r (first_from_Range _ u f r (λ x. t x ≡ true) (λ x. t x ≡ false) d (λ x q e. sym (calls x true q e).1) (λ x q e. let h = calls x false q e in (h.0, sym h.1)))
  where
    answer : (r : Option ℕ) → MatchOption r ((k : ℕ) → 0 ≤ k → k < n → t k ≡ false) (λ i. (0 ≤ i) × (i < n) × (t i ≡ true) × ((k : ℕ) → 0 ≤ k → k < i → t k ≡ false)) → r ≡ if_below n (first_below n t)
    answer None none = rw (first_none_intro n t (λ k l. none k (omega arith) l)) (sym (below_none n))
    answer (Some i) some = rw (first_unique {n = n} {t = t} {r = i} (record { below = some.1; passes = some.2; before = λ k l. some.3 k (omega arith) l })) (sym (below_some some.1))

-- and `(0..n).any(|i| ..)`
pub any_in : {F : Type 0} {g : Mut F (ℕ × Unit {0}) Bool} (n : ℕ) (t : ℕ → Bool) (u : Range ℕ) (f : F) (r : Bool)
    → (xs : List ℕ) × (o : Option ℕ) × (j : F) × YieldsThen nat_range_steps (record { start = 0; end = n }) xs o u × FoldsTo (λ p x q. Called g p (x, tt) false q) f xs j × MatchOption o (r ≡ false) (λ x. (r ≡ true) × ((h : F) × Called g j (x, tt) true h))
    → ((x : ℕ) (b : Bool) (q : F) → Called g f (x, tt) b q → (q ≡ f) × (b ≡ t x))
    → r ≡ any_below n t
any_in n t u f r d calls =
    answer r (cases_from_any u f r (λ x. t x ≡ true) (λ x. t x ≡ false) d (YieldsList-from_range 0 n n refl (omega arith)) (λ x q e. sym (calls x true q e).1) (λ x q e. let h = calls x false q e in (h.0, sym h.1)))
  where
    long : length (range_with_len 0 n) ≡ n
    long = length-range_with_len 0 n

    at : (k : ℕ) → k < n → get_or (range_with_len 0 n) k 0 ≡ k
    at k l = let e = get_or-range_with_len 0 n k 0 l in omega (arith, e)

    answer : (r : Bool) → MatchBool r ((k : ℕ) × (k < length (range_with_len 0 n)) × HoldsAt (λ x. t x ≡ true) (range_with_len 0 n) k) (AllWithin (λ x. t x ≡ false) (range_with_len 0 n) 0 (length (range_with_len 0 n))) → r ≡ any_below n t
    answer true h = let l : h.0 < n = omega (arith, long, h.1) in sym (any_intro t h.0 l (rw (at h.0 l) at (h.2 0)))
    answer false h = sym (any_none_intro n t (λ k l. rw (at k l) at (h k 0 (omega arith) (omega (arith, long)))))

-- and `xs.iter().all(|x| ..)`
pub all_over : {F : Type 0} {g : Mut F (Bor ℕ × Unit {0}) Bool} {s : Iter ℕ} (xs : List ℕ) (t : ℕ → Bool) (u : Iter ℕ) (f : F) (r : Bool)
    → iter_rest s ≡ xs
    → (ys : List (Bor ℕ)) × (o : Option (Bor ℕ)) × (j : F) × YieldsThen fronts s ys o u × FoldsTo (λ p x q. Called g p (x, tt) true q) f ys j × MatchOption o (r ≡ true) (λ x. (r ≡ false) × ((h : F) × Called g j (x, tt) false h))
    → ((x : Bor ℕ) (b : Bool) (q : F) → Called g f (x, tt) b q → (q ≡ f) × (b ≡ t x.now))
    → r ≡ all_below (length xs) (λ k. t (get_or xs k 0))
all_over xs t u f r rest d calls =
    answer r (cases_from_all u f r (λ x. t x ≡ true) (λ x. t x ≡ false) d (YieldsList-from_slice xs rest) (λ x q e. let h = calls x true q e in (h.0, sym h.1)) (λ x q e. sym (calls x false q e).1))
  where
    answer : (r : Bool) → MatchBool r (AllWithin (λ x. t x ≡ true) xs 0 (length xs)) ((k : ℕ) × (k < length xs) × HoldsAt (λ x. t x ≡ false) xs k) → r ≡ all_below (length xs) (λ k. t (get_or xs k 0))
    answer true h = sym (all_intro (length xs) (λ k. t (get_or xs k 0)) (λ k l. h k 0 (omega arith) l))
    answer false h = sym (all_fails_intro (λ k. t (get_or xs k 0)) h.0 h.1 (h.2 0))
