-- What a search for the best below n answers: `(0..n).filter(|&i| ..).reduce(|best, i| ..)`, whose closures compute a test, and take i where it
-- is better than the best so far.
-- Assumes nothing.
use Rattle.std.specs.Prelude.{ℕ, zero, suc, ◌+◌, ◌<◌, Bool, ◌≡◌, cond, List, [], ◌∷◌, Option, Some, None, MatchOption, refl}
use Rattle.std.proofs.Common.{arith, sym, ap, ap₂, subst, ◌∙◌}
use Rattle.std.specs.Iterator.{Drains}
use Rattle.std.specs.List.{FoldsTo, filter, range_with_len}
use Rattle.std.specs.Fn.{Called}
use Rattle.std.proofs.lemmas.Iterator.{YieldsList, items_from_drains}
use Rattle.std.proofs.lemmas.List.{map-id}
use denote.Param.Members.{Mut}
use Rattle.finite.specs.Search.{if_below, chosen}
use Rattle.finite.proofs.Tests.{by_test}
use Rattle.finite.proofs.Found.{below_some, below_none}
use Rattle.finite.proofs.Chosen.{Order}
use Rattle.finite.proofs.Running.{Running, run_zero, run_done, run_skip, run_keep, run_take, run_first}

drained : {S : Type 0} {steps : S → Option ℕ → S → Type 0} {s : S} {all : List ℕ} (xs : List ℕ) → Drains steps s xs → YieldsList steps (λ x. x) s all → xs ≡ all
drained xs d road = sym (map-id xs) ∙ items_from_drains xs (d.1.0, d.1.1, λ _. (d.0, d.1.2)) road

module _ {better : ℕ → ℕ → Bool} (o : Order better) (n : ℕ) (t : ℕ → Bool) where
  -- of `size` numbers from k on those that pass
  abbrev left : ℕ → ℕ → List ℕ
  left k size = filter t (range_with_len k size)

  module _ {F : Type 0} (g : Mut F (ℕ × (ℕ × Unit {0})) ℕ) (f : F) (calls : (b i v : ℕ) (q : F) → Called g f (b, (i, tt)) v q → (q ≡ f) × (v ≡ cond (better i b) i b)) where
    abbrev Turns : F × ℕ → List ℕ → F × ℕ → Type 0
    Turns = FoldsTo {P = F × ℕ} (λ p x q. Called g p.0 (p.1, (x, tt)) q.1 q.0)

    -- b is the best of the numbers below k: the turns over those that are left
    turns : (size k b : ℕ) (h : F) (y : ℕ) → k + size ≡ n → b < n → Running n k t better b → Turns (f, b) (left k size) (h, y) → (y < n) × Running n n t better y
    turns zero k b h y all l s d =
        let e : b ≡ y = ap (λ (p : F × ℕ). p.1) d in
        let end : k ≡ n = omega arith in
        (rw (← e) l, rw (← e) (rw end at s))
    turns (suc size) k b h y all l s d =
        by_test (t k)
        (λ p.
        let step = subst (λ c. Turns (f, b) (cond c (k ∷ left (k + 1) size) (left (k + 1) size)) (h, y)) p d in
        let e = calls b k step.0.1 step.0.0 step.1 in
        by_test (better k b)
        (λ q. turns size (k + 1) k h y (omega arith) (omega arith) (run_take o s (omega arith) p (λ _. q)) (subst (λ j. Turns j (left (k + 1) size) (h, y)) (ap₂ (λ x v. (x, v)) e.0 (e.1 ∙ ap (λ c. cond c k b) q)) step.2))
        (λ q. turns size (k + 1) b h y (omega arith) l (run_keep s l q) (subst (λ j. Turns j (left (k + 1) size) (h, y)) (ap₂ (λ x v. (x, v)) e.0 (e.1 ∙ ap (λ c. cond c k b) q)) step.2)))
        (λ p. turns size (k + 1) b h y (omega arith) l (run_skip s p) (subst (λ c. Turns (f, b) (cond c (k ∷ left (k + 1) size) (left (k + 1) size)) (h, y)) p d))

    -- none below k passes, and x is the first of those that are left
    starts : (size k x : ℕ) (xs : List ℕ) (h : F) (y : ℕ) → k + size ≡ n → Running n k t better n → x ∷ xs ≡ left k size → Turns (f, x) xs (h, y) → (y < n) × Running n n t better y
    starts zero k x xs h y all s e d = cc
    starts (suc size) k x xs h y all s e d =
        by_test (t k)
        (λ p.
        let made : x ∷ xs ≡ k ∷ left (k + 1) size = e ∙ ap (λ c. cond c (k ∷ left (k + 1) size) (left (k + 1) size)) p in
        let here : x ≡ k = cc in
        let rest : xs ≡ left (k + 1) size = cc in
        turns size (k + 1) k h y (omega arith) (omega arith) (run_first o s (omega arith) p refl) (subst (λ v. Turns (f, v) (left (k + 1) size) (h, y)) here (subst (λ ys. Turns (f, x) ys (h, y)) rest d)))
        (λ p. starts size (k + 1) x xs h y (omega arith) (run_skip s p) (e ∙ ap (λ c. cond c (k ∷ left (k + 1) size) (left (k + 1) size)) p) d)

    -- nothing is left
    nothing : (size k : ℕ) → k + size ≡ n → Running n k t better n → [] ≡ left k size → Running n n t better n
    nothing zero k all s e = let end : k ≡ n = omega arith in rw end at s
    nothing (suc size) k all s e =
        by_test (t k)
        (λ p. let made : [] ≡ k ∷ left (k + 1) size = e ∙ ap (λ c. cond c (k ∷ left (k + 1) size) (left (k + 1) size)) p in cc)
        (λ p. nothing size (k + 1) (omega arith) (run_skip s p) (e ∙ ap (λ c. cond c (k ∷ left (k + 1) size) (left (k + 1) size)) p))

    pub best_in : {S : Type 0} {steps : S → Option ℕ → S → Type 0} {s : S} (r : Option ℕ)
        → MatchOption r (Drains steps s []) (λ y. (x : ℕ) × (xs : List ℕ) × (h : F) × Drains steps s (x ∷ xs) × Turns (f, x) xs (h, y))
        → YieldsList steps (λ x. x) s (filter t (range_with_len 0 n))
        → r ≡ if_below n (chosen n t better)
    best_in {S} {steps} {s} None d road =
        rw (← run_done (nothing n 0 (omega arith) (run_zero n t better) (drained [] d road))) (sym (below_none n))
    best_in {S} {steps} {s} (Some y) d road =
        let best = starts n 0 d.0 d.1 d.2 y (omega arith) (run_zero n t better) (drained (d.0 ∷ d.1) d.3 road) d.4 in
        rw (← run_done best.1) (sym (below_some best.0))
