-- Laws of the least value over all lists of m numbers from 1 to n.
-- Assumes nothing.
use Prim.Native.Nat.{ℕ, zero, suc, ◌≤◌, ◌<◌}
use mathlib.Core.List.{List, [], ◌∷◌}
use mathlib.Core.Path.{◌≡◌}
use native.Mathlib.Nat.{le_refl, le_trans, le_antisymm}
use native.Mathlib.Omega.{arith}
use Rattle.finite.specs.Lists.{Picks, least_list}
use Rattle.finite.proofs.Extremes.{low_under, low_attained}
use Rattle.finite.proofs.Lists.{picks_nil, picks_cons, picks_head, picks_tail}

-- l is the least f of all lists of m numbers from 1 to n
pub record LeastOf (n m : ℕ) (f : List ℕ → ℕ) (l : ℕ) : Type 0 where
  pub list : List ℕ
  pub picks : Picks n m list
  pub value : f list ≤ l
  pub under : (y : List ℕ) → Picks n m y → l ≤ f y

pub least_under : {n m : ℕ} {y : List ℕ} (f : List ℕ → ℕ) → Picks n m y → least_list n m f ≤ f y
unfolding least_list
least_under {m = zero} {y = []} f p = le_refl _
least_under {m = zero} {y = x ∷ y} f p = absurd (omega (arith, p.size))
least_under {m = suc m} {y = []} f p = absurd (omega (arith, p.size))
least_under {m = suc m} {y = zero ∷ y} f p = absurd (omega (arith, p.positive 0 (omega arith)))
least_under {n} {m = suc m} {y = suc i ∷ y} f p =
    le_trans (low_under (λ i. least_list n m (λ y. f (suc i ∷ y))) i (picks_head p)) (least_under (λ y. f (suc i ∷ y)) (picks_tail p))

pub least_attained : (n m : ℕ) (f : List ℕ → ℕ) → 0 < n → LeastOf n m f (least_list n m f)
unfolding least_list
least_attained n zero f l =
    record { list = []; picks = picks_nil n; value = le_refl _; under = λ y. least_under {m = 0} f }
least_attained n (suc m) f l =
    let low = low_attained (λ i. least_list n m (λ y. f (suc i ∷ y))) l in
    let rest = least_attained n m (λ y. f (suc low.index ∷ y)) l in
    record {
      list = suc low.index ∷ rest.list;
      picks = picks_cons low.below rest.picks;
      value = omega (arith, low.value, rest.value);
      under = λ y. least_under {m = suc m} f;
    }

pub least_unique : {n m l : ℕ} {f : List ℕ → ℕ} → 0 < n → LeastOf n m f l → least_list n m f ≡ l
least_unique {n} {m} {f = f} some w =
    let low = least_attained n m f some in
    le_antisymm (le_trans (least_under f w.picks) w.value) (le_trans (w.under low.list low.picks) low.value)
