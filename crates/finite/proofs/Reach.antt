-- Laws of reachability in rounds.
-- Assumes nothing.
use Prim.Native.Nat.{ℕ, zero, suc, ◌≤◌, ◌<◌}
use mathlib.Core.Bool.{Bool, true, false, ◌&&◌}
use mathlib.Core.Path.{◌≡◌, refl, ◌∙◌}
use native.Mathlib.Omega.{arith}
use Rattle.finite.specs.Sums.{count_to}
use Rattle.finite.specs.Search.{any_below}
use Rattle.finite.specs.Reach.{reach}
use Rattle.finite.proofs.Tests.{by_test, clash, and_elim, and_intro, or_cases, or_left, or_right}
use Rattle.finite.proofs.Below.{by_less}
use Rattle.finite.proofs.Search.{any_elim, any_intro}
use Rattle.finite.proofs.Counts.{count_le, count_strict, count_point}

-- i is linked to a place that t rounds reach
pub record Via (n : ℕ) (start : ℕ → Bool) (link : ℕ → ℕ → Bool) (t i : ℕ) : Type 0 where
  pub next : ℕ
  pub below : next < n
  pub reached : reach n start link t next ≡ true
  pub linked : link i next ≡ true

module _ (n : ℕ) (start : ℕ → Bool) (link : ℕ → ℕ → Bool) where
  pub reach_zero : (i : ℕ) → reach n start link 0 i ≡ start i
  unfolding reach
  reach_zero i = refl

  -- what is reached stays reached
  pub reach_kept : (t i : ℕ) → reach n start link t i ≡ true → reach n start link (suc t) i ≡ true
  unfolding reach
  reach_kept t i h = or_left (any_below n (λ j. reach n start link t j && link i j)) h

  -- one link further
  pub reach_step : (t i j : ℕ) → j < n → reach n start link t j ≡ true → link i j ≡ true → reach n start link (suc t) i ≡ true
  unfolding reach
  reach_step t i j l h k =
      or_right (reach n start link t i) (any_intro (λ j. reach n start link t j && link i j) j l (and_intro h k))

  -- a place reached in one more round was reached before, or is linked to one that was
  pub reach_cases {ℓ} : {A : Type ℓ} (t i : ℕ) → reach n start link (suc t) i ≡ true → (reach n start link t i ≡ true → A) → (Via n start link t i → A) → A
  unfolding reach
  reach_cases t i e old new =
      or_cases (reach n start link t i) (any_below n (λ j. reach n start link t j && link i j)) e old λ h.
      let r = any_elim n (λ j. reach n start link t j && link i j) h in
      let both = and_elim (reach n start link t r.index) (link i r.index) r.passes in
      new (record { next = r.index; below = r.below; reached = both.0; linked = both.1 })

  -- a place that one more round adds is linked to one reached before
  pub reach_added : (t i : ℕ) → reach n start link (suc t) i ≡ true → reach n start link t i ≡ false → Via n start link t i
  reach_added t i h k = reach_cases t i h (λ e. absurd (clash e k)) (λ v. v)

  -- more rounds reach no less
  pub reach_mono : {t u : ℕ} → t ≤ u → (i : ℕ) → reach n start link t i ≡ true → reach n start link u i ≡ true
  reach_mono {t} {u = zero} l i h = let z : t ≡ 0 = omega arith in rw z at h
  reach_mono {t} {u = suc v} l i h =
      by_less v t
      (λ g. let z : t ≡ suc v = omega arith in rw z at h)
      (λ g. reach_kept v i (reach_mono g i h))

  pub reach_start : (t i : ℕ) → start i ≡ true → reach n start link t i ≡ true
  reach_start t i h = reach_mono {t = 0} {u = t} (omega arith) i (reach_zero i ∙ h)

  -- the round that adds i comes after a start and rounds that each added a place: more than t + 1 are reached
  pub reach_grows : (t i : ℕ) → i < n → reach n start link (suc t) i ≡ true → reach n start link t i ≡ false → suc t < count_to n (reach n start link (suc t))
  reach_grows zero i l h k =
      let v = reach_added 0 i h k in
      omega (arith, count_point (reach n start link 0) v.next v.below v.reached, count_strict (reach n start link 0) (reach n start link 1) (λ c m. reach_kept 0 c) i l k h)
  reach_grows (suc t) i l h k =
      let v = reach_added (suc t) i h k in
      let j = v.next in
      by_test (reach n start link t j)
      (λ e. absurd (clash (reach_step t i j v.below e v.linked) k))
      (λ e. omega (arith, reach_grows t j v.below v.reached e, count_strict (reach n start link (suc t)) (reach n start link (suc (suc t))) (λ c m. reach_kept (suc t) c) i l k h))

  -- a round that adds a place is one of the first n - 1
  pub reach_early : (t i : ℕ) → i < n → reach n start link (suc t) i ≡ true → reach n start link t i ≡ false → suc t < n
  reach_early t i l h k = omega (arith, reach_grows t i l h k, count_le n (reach n start link (suc t)))

  -- after n rounds nothing more is added
  pub reach_closed : (i : ℕ) → i < n → reach n start link (suc n) i ≡ true → reach n start link n i ≡ true
  reach_closed i l h =
      by_test (reach n start link n i) (λ e. e)
      (λ e. absurd (omega (arith, reach_early n i l h e)))

  -- a place linked to one that n rounds reach is reached by them too
  pub reach_link : (i j : ℕ) → i < n → j < n → reach n start link n j ≡ true → link i j ≡ true → reach n start link n i ≡ true
  reach_link i j l k h e = reach_closed i l (reach_step n i j k h e)
