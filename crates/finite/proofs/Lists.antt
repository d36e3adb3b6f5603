-- Laws of lists made by index, of a list lent from its middle, and of the search through all lists of a length.
-- Assumes nothing.
use Prim.Native.Nat.{ℕ, zero, suc, ◌+◌, ◌-◌, ◌≤◌, ◌<◌}
use mathlib.Core.Bool.{Bool, true, false}
use mathlib.Core.List.{List, [], ◌∷◌, ◌++◌, append_assoc, append-nil}
use mathlib.Core.Path.{◌≡◌, refl, sym, ap, ap₂, ◌∙◌}
use native.Mathlib.Nat.{le_refl, le_of_eq, sub-zero}
use native.Mathlib.Numerals.{add-one}
use native.Mathlib.Omega.{arith}
use lib.ListN.{length, get_or, take, drop, set, replicate, length-append, length-take, length-drop, length-replicate, get_or-replicate, take-append-drop, drop_of_length-le, get_or-append}
use lib.Seq.{ext_get_or, sets, sets-eq, take_at, take-take, drop-drop, drop-append-add, take-suc, drop-cons, set_at, append_snoc, take-suc-set, take_all, get_or-take, get_or-drop, get_or_at, length-take-le}
use Rattle.finite.specs.Lists.{tabulate, Picks, some_list}
use Rattle.finite.proofs.Tests.{clash, bool_eq, fails_of, not_yes}
use Rattle.finite.proofs.Below.{none_below, by_top, lower}
use Rattle.finite.proofs.Search.{any_intro, any_elim}

-- tabulate

pub tab_zero : (f : ℕ → ℕ) → tabulate 0 f ≡ []
unfolding tabulate
tab_zero f = refl

pub tab_next : (k : ℕ) (f : ℕ → ℕ) → tabulate (k + 1) f ≡ tabulate k f ++ (f k ∷ [])
unfolding tabulate
tab_next k f = ap (λ n. tabulate n f) (add-one k)

pub tab_length : (n : ℕ) (f : ℕ → ℕ) → length (tabulate n f) ≡ n
unfolding tabulate
tab_length zero f = refl
tab_length (suc k) f = rw (length-append, tab_length k f) (add-one k)

pub tab_at : {n : ℕ} (f : ℕ → ℕ) (i d : ℕ) → i < n → get_or (tabulate n f) i d ≡ f i
unfolding tabulate
tab_at {n = zero} f i d l = none_below l
tab_at {n = suc k} f i d l =
    by_top l
    (λ e. rw e (get_or_at (tabulate k f) (f k) [] d k (tab_length k f)))
    (λ l'. get_or-append (tabulate k f) (f k ∷ []) d i (rw (tab_length k f) l') ∙ tab_at f i d l')

pub tab_cong : (n : ℕ) {f g : ℕ → ℕ} → ((c : ℕ) → c < n → f c ≡ g c) → tabulate n f ≡ tabulate n g
unfolding tabulate
tab_cong zero h = refl
tab_cong (suc k) h = ap₂ (λ xs v. xs ++ (v ∷ [])) (tab_cong k (lower h)) (h k (le_refl _))

-- a list is known by its length and entries
pub tab_ext : (n : ℕ) (f : ℕ → ℕ) (xs : List ℕ) → length xs ≡ n → ((i : ℕ) → i < n → get_or xs i 0 ≡ f i) → xs ≡ tabulate n f
tab_ext n f xs e h =
    ext_get_or 0 xs (tabulate n f) (e ∙ sym (tab_length n f)) (λ i l. let l' : i < n = rw e at l in h i l' ∙ sym (tab_at f i 0 l'))

pub tab_const : (n v : ℕ) → replicate n v ≡ tabulate n (λ i. v)
tab_const n v = tab_ext n (λ i. v) (replicate n v) (length-replicate n v) (λ i l. get_or-replicate n i v 0 l)

pub tab_take : {n m : ℕ} (f : ℕ → ℕ) → n ≤ m → take n (tabulate m f) ≡ tabulate n f
tab_take {n} {m} f l =
    tab_ext n f (take n (tabulate m f)) (length-take-le n (tabulate m f) (rw (tab_length m f) l))
    (λ i k. get_or-take n (tabulate m f) i 0 k ∙ tab_at f i 0 (omega arith))

-- a list filled from the front: its first k entries are f's

pub fill_zero : (f : ℕ → ℕ) (xs : List ℕ) → take 0 xs ≡ tabulate 0 f
unfolding tabulate
fill_zero f xs = refl

pub fill_next : {k v : ℕ} (f : ℕ → ℕ) (xs : List ℕ) → k < length xs → v ≡ f k → take k xs ≡ tabulate k f → take (k + 1) (set xs k v) ≡ tabulate (k + 1) f
fill_next {k} {v} f xs l e h = rw (add-one k, take-suc-set xs k v l, h, e) (sym (tab_next k f) ∙ ap (λ n. tabulate n f) (add-one k))

-- an entry that is right already
pub fill_keep : {k : ℕ} (f : ℕ → ℕ) (xs : List ℕ) → k < length xs → get_or xs k 0 ≡ f k → take k xs ≡ tabulate k f → take (k + 1) xs ≡ tabulate (k + 1) f
fill_keep {k} f xs l e h = rw (add-one k, take-suc xs k 0 l, h, e) (sym (tab_next k f) ∙ ap (λ n. tabulate n f) (add-one k))

pub fill_done : {n : ℕ} (f : ℕ → ℕ) (xs : List ℕ) → length xs ≡ n → take n xs ≡ tabulate n f → xs ≡ tabulate n f
fill_done {n} f xs e h = sym (take_all n xs (le_of_eq e)) ∙ h

pub fill_at : {k : ℕ} (f : ℕ → ℕ) (xs : List ℕ) (i d : ℕ) → i < k → take k xs ≡ tabulate k f → get_or xs i d ≡ f i
fill_at {k} f xs i d l h = sym (get_or-take k xs i d l) ∙ ap (λ ys. get_or ys i d) h ∙ tab_at f i d l

-- with the entries of another list
pub over_next : {c v : ℕ} (xs ys : List ℕ) → c < length xs → c < length ys → v ≡ get_or xs c 0 → set (take c xs ++ drop c ys) c v ≡ take (c + 1) xs ++ drop (c + 1) ys
over_next {c} {v} xs ys l m e =
    rw (drop-cons ys c 0 m, set_at (take c xs) (get_or ys c 0) (drop (suc c) ys) v c (length-take-le c xs (omega arith)), add-one c, take-suc xs c 0 l, append_snoc, e)

-- parts of a list, as code takes them

-- `xs[0..j]` of a list of zeros, and its length for any list
pub first_of : {n k j : ℕ} {xs : List ℕ} → xs ≡ replicate n 0 → j ≡ k → k ≤ n → take (j - 0) xs ≡ replicate k 0
first_of {n} {k} {j} e q h =
    let z : j - 0 ≡ k = omega arith in
    rw (e, z, tab_const n 0) (tab_take {n = k} (λ i. 0) h ∙ sym (tab_const k 0))

pub first_sized_lem : {n k j : ℕ} (xs : List ℕ) → length xs ≡ n → j ≡ k → k ≤ n → length (take (j - 0) xs) ≡ k
first_sized_lem {n} {k} {j} xs e q h =
    let z : j - 0 ≡ k = omega arith in
    rw z (length-take-le k xs (rw e h))

-- `size` entries from start on: what is left from start on, and then its beginning
module _ (xs : List ℕ) (start size : ℕ) (fit : start + size ≤ length xs) where
  pub rest_long : size ≤ length (take (length xs - start) (drop start xs))
  rest_long = simp (length-take, length-drop) (omega arith)

  pub part_of : take (size - 0) (take (length xs - start) (drop start xs)) ≡ take size (drop start xs)
  part_of =
      let within : size ≤ length xs - start = omega arith in
      rw (sub-zero, take-take)

-- a list lent from its middle

-- the rest from a on is all that is left
pub rest_whole : {a : ℕ} (xs : List ℕ) → a ≤ length xs → take (length xs - a) (drop a xs) ≡ drop a xs
rest_whole {a} xs l = take_all (length xs - a) (drop a xs) (simp length-drop (omega arith))

-- handed back with ws at its start and the rest kept, it makes the whole have ws from a on
module _ (xs ys ws : List ℕ) (a m : ℕ) (size : length ws ≡ m) (room : a + m ≤ length xs) where
  pub rest_back : take m ys ≡ ws → drop m ys ≡ drop m (drop a xs) → take a xs ++ (ys ++ drop (length xs - a) (drop a xs)) ≡ sets xs a ws
  rest_back written kept =
      let gone : drop (length xs - a) (drop a xs) ≡ [] = drop_of_length-le (drop a xs) {i = length xs - a} (simp length-drop (omega arith)) in
      let made : ys ≡ ws ++ drop (a + m) xs = sym (take-append-drop m ys) ∙ rw (written, kept, drop-drop) in
      let fits : a + length ws ≤ length xs = rw size room in
      rw (gone, append-nil, made, sets-eq ws xs a fits, size) (sym (append_assoc (take a xs) ws (drop (a + m) xs)))

-- stores one after the other
pub sets_append : (xs ys l : List ℕ) (i : ℕ) → sets (sets l i xs) (i + length xs) ys ≡ sets l i (xs ++ ys)
sets_append [] ys l i = ap (λ k. sets l k ys) (omega arith)
sets_append (x ∷ xs) ys l i = ap (λ k. sets (sets (set l i x) (suc i) xs) k ys) (omega arith) ∙ sets_append xs ys (set l i x) (suc i)

-- ws written where a list goes on with the rest of another
pub stretch_on : (done ws lent : List ℕ) (f e : ℕ) → length done ≡ f → length ws ≡ e → f + e ≤ length lent → sets (done ++ drop f lent) f ws ≡ (done ++ ws) ++ drop (f + e) lent
stretch_on done ws lent f e long size room =
    let whole : length (done ++ drop f lent) ≡ length lent = simp (length-append, length-drop) (omega arith) in
    let fits : f + length ws ≤ length (done ++ drop f lent) = rw (whole, size) room in
    let after : drop (f + e) (done ++ drop f lent) ≡ drop (f + e) lent = rw (← long) (drop-append-add done (drop (length done) lent) e ∙ drop-drop e (length done) lent) in
    rw (sets-eq ws (done ++ drop f lent) f fits, size, take_at done (drop f lent) f long, after)

-- some_list

-- a list of m numbers from 1 to n that passes
pub record SomePicks (n m : ℕ) (t : List ℕ → Bool) : Type 0 where
  pub list : List ℕ
  pub picks : Picks n m list
  pub passes : t list ≡ true

pub picks_nil : (n : ℕ) → Picks n 0 []
picks_nil n = record { size = refl; positive = λ c l. none_below l; bounded = λ c l. none_below l }

pub picks_cons : {n m : ℕ} {y : List ℕ} {i : ℕ} → i < n → Picks n m y → Picks n (suc m) (suc i ∷ y)
picks_cons {n} {m} {y} {i} l p = record { size = ap suc p.size; positive = low; bounded = high }
  where
    low : (c : ℕ) → c < suc m → 0 < get_or (suc i ∷ y) c 0
    low zero h = omega arith
    low (suc c) h = p.positive c (omega arith)

    high : (c : ℕ) → c < suc m → get_or (suc i ∷ y) c 0 ≤ n
    high zero h = l
    high (suc c) h = p.bounded c (omega arith)

pub picks_head : {n m : ℕ} {y : List ℕ} {i : ℕ} → Picks n (suc m) (suc i ∷ y) → i < n
picks_head p = p.bounded 0 (omega arith)

pub picks_tail : {n m x : ℕ} {y : List ℕ} → Picks n (suc m) (x ∷ y) → Picks n m y
picks_tail p =
    record {
      size = omega (arith, p.size);
      positive = λ c l. p.positive (suc c) (omega arith);
      bounded = λ c l. p.bounded (suc c) (omega arith);
    }

-- a list cut in two

pub picks_take : {n k : ℕ} {y : List ℕ} (m : ℕ) → m ≤ k → Picks n k y → Picks n m (take m y)
picks_take {n} {k} {y} m h p =
    record {
      size = length-take-le m y (rw p.size h);
      positive = λ c l. rw (get_or-take m y c 0 l) (p.positive c (omega arith));
      bounded = λ c l. rw (get_or-take m y c 0 l) (p.bounded c (omega arith));
    }

pub picks_drop : {n k l : ℕ} {y : List ℕ} (m : ℕ) → k ≡ m + l → Picks n k y → Picks n l (drop m y)
picks_drop {n} {k} {l} {y} m e p =
    record {
      size = simp length-drop (omega (arith, p.size));
      positive = λ c h. rw (get_or-drop m y c 0) (p.positive (m + c) (omega arith));
      bounded = λ c h. rw (get_or-drop m y c 0) (p.bounded (m + c) (omega arith));
    }

pub list_elim : (n m : ℕ) (t : List ℕ → Bool) → some_list n m t ≡ true → SomePicks n m t
unfolding some_list
list_elim n zero t e = record { list = []; picks = picks_nil n; passes = e }
list_elim n (suc m) t e =
    let r = any_elim n (λ i. some_list n m (λ y. t (suc i ∷ y))) e in
    let s = list_elim n m (λ y. t (suc r.index ∷ y)) r.passes in
    record { list = suc r.index ∷ s.list; picks = picks_cons r.below s.picks; passes = s.passes }

pub list_intro : {n m : ℕ} {y : List ℕ} (t : List ℕ → Bool) → Picks n m y → t y ≡ true → some_list n m t ≡ true
unfolding some_list
list_intro {m = zero} {y = []} t p e = e
list_intro {m = zero} {y = x ∷ y} t p e = absurd (omega (arith, p.size))
list_intro {m = suc m} {y = []} t p e = absurd (omega (arith, p.size))
list_intro {m = suc m} {y = zero ∷ y} t p e = absurd (omega (arith, p.positive 0 (omega arith)))
list_intro {n} {m = suc m} {y = suc i ∷ y} t p e =
    any_intro (λ i. some_list n m (λ y. t (suc i ∷ y))) i (picks_head p) (list_intro (λ y. t (suc i ∷ y)) (picks_tail p) e)

-- none found: every such list fails
pub list_none : {n m : ℕ} {y : List ℕ} (t : List ℕ → Bool) → some_list n m t ≡ false → Picks n m y → t y ≡ false
list_none t e p = fails_of (list_intro t p) e

pub list_none_intro : (n m : ℕ) (t : List ℕ → Bool) → ((y : List ℕ) → Picks n m y → t y ≡ false) → some_list n m t ≡ false
list_none_intro n m t h = not_yes _ (λ e. let r = list_elim n m t e in clash r.passes (h r.list r.picks))

pub list_cong : (n m : ℕ) (t u : List ℕ → Bool) → ((y : List ℕ) → Picks n m y → t y ≡ u y) → some_list n m t ≡ some_list n m u
list_cong n m t u h =
    bool_eq (λ e. let r = list_elim n m t e in list_intro u r.picks (sym (h r.list r.picks) ∙ r.passes))
    (λ e. let r = list_elim n m u e in list_intro t r.picks (h r.list r.picks ∙ r.passes))
