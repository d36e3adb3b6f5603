-- Distances: the round in which a place is reached first.
-- Assumes nothing.
use Prim.Native.Nat.{ℕ, zero, suc, ◌<◌}
use mathlib.Core.Bool.{Bool, true, false}
use mathlib.Core.Path.{◌≡◌}
use native.Mathlib.Nat.{le_refl}
use native.Mathlib.Omega.{arith}
use Rattle.finite.specs.Sums.{count_to}
use Rattle.finite.specs.Search.{First, first_below}
use Rattle.finite.specs.Reach.{reach}
use Rattle.finite.proofs.Tests.{fails_of}
use Rattle.finite.proofs.Search.{first_some, found}
use Rattle.finite.proofs.Counts.{count_le, count_point, count_strict}
use Rattle.finite.proofs.Reach.{reach_kept, reach_step, reach_added}

module _ (n : ℕ) (start : ℕ → Bool) (link : ℕ → ℕ → Bool) where
  -- what i is linked to is missed one round earlier, if i is missed
  pub reach_behind : (t i j : ℕ) → j < n → link i j ≡ true → reach n start link (suc t) i ≡ false → reach n start link t j ≡ false
  reach_behind t i j l k e = fails_of (λ h. reach_step n start link t i j l h k) e

  -- the number of rounds that reaches i first: i's distance
  pub reach_first : (t i : ℕ) → reach n start link t i ≡ true → First (suc t) (λ s. reach n start link s i) (first_below (suc t) (λ s. reach n start link s i))
  reach_first t i h =
      found (suc t) (λ s. reach n start link s i) (first_some (λ s. reach n start link s i) t (le_refl _) h)

  -- for each round up to i's distance a place was reached first in it
  pub reach_spread : (t i : ℕ) → i < n → reach n start link t i ≡ true → ((s : ℕ) → s < t → reach n start link s i ≡ false) → t < count_to n (reach n start link t)
  reach_spread zero i l h before = count_point (reach n start link 0) i l h
  reach_spread (suc t) i l h before =
      let out = before t (le_refl _) in
      let v = reach_added n start link t i h out in
      let j = v.next in
      let nearer = reach_spread t j v.below v.reached (λ s k. reach_behind s i j v.below v.linked (before (suc s) (omega arith))) in
      omega (arith, count_strict (reach n start link t) (reach n start link (suc t)) (λ c m. reach_kept n start link t c) i l out h)

  -- a distance is below n
  pub reach_distance : (t i : ℕ) → i < n → reach n start link t i ≡ true → ((s : ℕ) → s < t → reach n start link s i ≡ false) → t < n
  reach_distance t i l h before = omega (arith, reach_spread t i l h before, count_le n (reach n start link t))
