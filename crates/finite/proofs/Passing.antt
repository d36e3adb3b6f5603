-- Laws of the list of numbers that pass: one number further, and which number stands at which place.
-- Assumes nothing.
use Prim.Native.Nat.{ℕ, zero, suc, ◌<◌}
use mathlib.Core.Bool.{Bool, true, false, cond}
use mathlib.Core.List.{[], ◌∷◌, ◌++◌, append-nil}
use mathlib.Core.Path.{◌≡◌, refl, sym, ap, ap₂, ◌∙◌}
use native.Mathlib.Nat.{le_refl}
use native.Mathlib.Numerals.{add-one}
use native.Mathlib.Omega.{arith}
use lib.ListN.{length, get_or, length-append, get_or-append}
use lib.Seq.{get_or_at}
use Rattle.finite.specs.Lists.{passing}
use Rattle.finite.proofs.Tests.{by_test, clash}
use Rattle.finite.proofs.Below.{none_below, by_top, lower}

pub pass_hit : (k : ℕ) (t : ℕ → Bool) → t k ≡ true → passing (suc k) t ≡ passing k t ++ (k ∷ [])
unfolding passing
pass_hit k t e = rw e refl

pub pass_miss : (k : ℕ) (t : ℕ → Bool) → t k ≡ false → passing (suc k) t ≡ passing k t
unfolding passing
pass_miss k t e = rw e (append-nil _)

pub pass_cong : (n : ℕ) {t u : ℕ → Bool} → ((i : ℕ) → i < n → t i ≡ u i) → passing n t ≡ passing n u
unfolding passing
pass_cong zero h = refl
pass_cong (suc k) h = ap₂ (λ xs b. xs ++ cond b (k ∷ []) []) (pass_cong k (lower h)) (h k (le_refl _))

pub pass_none : (n : ℕ) {t : ℕ → Bool} → ((i : ℕ) → i < n → t i ≡ false) → passing n t ≡ []
unfolding passing
pass_none zero h = refl
pass_none (suc k) h = pass_miss k _ (h k (le_refl _)) ∙ pass_none k (lower h)

-- what stands in the list is below n and passes
pub record Passes (n : ℕ) (t : ℕ → Bool) (i : ℕ) : Type 0 where
  pub below : i < n
  pub passes : t i ≡ true

passes_more : {n : ℕ} {t : ℕ → Bool} {i : ℕ} → Passes n t i → Passes (suc n) t i
passes_more p = record { below = omega (arith, p.below); passes = p.passes }

pub pass_at : (n : ℕ) (t : ℕ → Bool) (k : ℕ) → k < length (passing n t) → Passes n t (get_or (passing n t) k 0)
unfolding passing
pass_at zero t k l = none_below l
pass_at (suc n) t k l =
    by_test (t n)
    (λ e.
    let longer : length (passing n t ++ (n ∷ [])) ≡ suc (length (passing n t)) = length-append (passing n t) (n ∷ []) ∙ add-one _ in
    rw (pass_hit n t e)
    (by_top (rw (pass_hit n t e, longer) at l)
    (λ q. rw (get_or_at (passing n t) n [] 0 k (sym q)) (record { below = le_refl _; passes = e }))
    (λ h. rw (get_or-append (passing n t) (n ∷ []) 0 k h) (passes_more (pass_at n t k h)))))
    (λ e. rw (pass_miss n t e) (passes_more (pass_at n t k (rw (pass_miss n t e) at l))))

-- a number below n that passes has its place
pub record Placed (n : ℕ) (t : ℕ → Bool) (i : ℕ) : Type 0 where
  pub place : ℕ
  pub there : place < length (passing n t)
  pub is : get_or (passing n t) place 0 ≡ i

pub pass_place : (n : ℕ) (t : ℕ → Bool) (i : ℕ) → i < n → t i ≡ true → Placed n t i
pass_place zero t i l e = none_below l
pass_place (suc n) t i l e =
    by_test (t n)
    (λ h.
    let longer : length (passing (suc n) t) ≡ suc (length (passing n t)) = rw (pass_hit n t h) (length-append (passing n t) (n ∷ []) ∙ add-one _) in
    by_top l
    (λ q. record { place = length (passing n t); there = omega (arith, longer); is = rw (pass_hit n t h) (get_or_at (passing n t) n [] 0 _ refl ∙ sym q) })
    (λ below.
    let p = pass_place n t i below e in
    record { place = p.place; there = omega (arith, longer, p.there); is = rw (pass_hit n t h) (get_or-append (passing n t) (n ∷ []) 0 p.place p.there ∙ p.is) }))
    (λ h.
    by_top l (λ q. absurd (clash (ap t (sym q) ∙ e) h))
    (λ below. let p = pass_place n t i below e in record { place = p.place; there = rw (pass_miss n t h) p.there; is = rw (pass_miss n t h) p.is }))
