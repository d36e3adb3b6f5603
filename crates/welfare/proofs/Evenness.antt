-- Evenness is decided by the costliest chore: if any chore taken off makes the rest cost no more, one of the costliest does.
-- Assumes nothing.
use Prim.Native.Nat.{ℕ, ◌+◌, ◌≤◌, ◌<◌}
use mathlib.Core.Bool.{Bool, true, false, not, ◌&&◌}
use mathlib.Core.Path.{◌≡◌}
use native.Mathlib.Omega.{arith}
use lib.Dec.{leb}
use borrow.Author.Tests.{leb-true, le-leb, not-true}
use Rattle.finite.specs.Sums.{max_where}
use Rattle.finite.specs.Search.{any_below}
use Rattle.finite.proofs.Tests.{by_test, not_on, and_elim, and_intro, or_cases, or_left, or_right}
use Rattle.finite.proofs.Search.{any_elim, any_intro, any_none, pairs_intro}
use Rattle.finite.proofs.Where.{where_none, where_off}
use Rattle.finite.proofs.Extremes.{peak_attained, peak_above}
use Rattle.model.specs.Instance.{Instance, cost}
use Rattle.model.specs.Fairness.{owns, holds_any, total, cost_to, cost_without, fair, ef1}

module _ (I : Instance) (x : ℕ → ℕ) where
  -- what an agent without chores has costs nothing
  pub idle_cost : (i j : ℕ) → holds_any I.m x j ≡ false → cost_to I x i j ≡ 0
  unfolding holds_any cost_to total
  idle_cost i j e = where_none I.m (owns x j) (cost I i) (any_none I.m (owns x j) e)

  -- a chore taken off and put back
  pub off_cost : (i c : ℕ) → c < I.m → owns x i c ≡ true → cost_without I x i c + cost I i c ≡ cost_to I x i i
  unfolding cost_without cost_to total
  off_cost i c l h = where_off (owns x i) (cost I i) c l h

  pub fair_idle : (i j : ℕ) → holds_any I.m x i ≡ false → fair I x i j ≡ true
  unfolding fair
  fair_idle i j e =
      or_left (any_below I.m (λ c. owns x i c && leb (cost_without I x i c) (cost_to I x i j))) (not_on e)

  -- any chore whose rest costs no more will do
  pub fair_off : (i j c : ℕ) → c < I.m → owns x i c ≡ true → cost_without I x i c ≤ cost_to I x i j → fair I x i j ≡ true
  unfolding fair
  fair_off i j c l h rest =
      or_right (not (holds_any I.m x i))
      (any_intro (λ c. owns x i c && leb (cost_without I x i c) (cost_to I x i j)) c l (and_intro h (le-leb _ _ rest)))

  pub fair_elim : (i j : ℕ) → fair I x i j ≡ true → cost_to I x i i ≤ cost_to I x i j + max_where I.m (owns x i) (cost I i)
  unfolding fair
  fair_elim i j e =
      let spare : ℕ → Bool = λ c. owns x i c && leb (cost_without I x i c) (cost_to I x i j) in
      or_cases (not (holds_any I.m x i)) (any_below I.m spare) e (λ h. omega (arith, idle_cost i i (not-true _ h))) λ h.
      let r = any_elim I.m spare h in
      let c = r.index in
      let both = and_elim (owns x i c) (leb (cost_without I x i c) (cost_to I x i j)) r.passes in
      omega (arith, leb-true (cost_without I x i c) (cost_to I x i j) both.1, off_cost i c r.below both.0, peak_above (owns x i) (cost I i) c r.below both.0)

  -- a costliest chore will do
  costliest_off : (i j : ℕ) → holds_any I.m x i ≡ true → cost_to I x i i ≤ cost_to I x i j + max_where I.m (owns x i) (cost I i) → fair I x i j ≡ true
  unfolding holds_any
  costliest_off i j e h =
      let r = any_elim I.m (owns x i) e in
      let d = peak_attained (owns x i) (cost I i) r.index r.below r.passes in
      fair_off i j d.index d.below d.passes (omega (arith, off_cost i d.index d.below d.passes, d.value))

  pub fair_intro : (i j : ℕ) → (holds_any I.m x i ≡ true → cost_to I x i i ≤ cost_to I x i j + max_where I.m (owns x i) (cost I i)) → fair I x i j ≡ true
  fair_intro i j h = by_test (holds_any I.m x i) (λ e. costliest_off i j e (h e)) (λ e. fair_idle i j e)

  pub fair_self : (i : ℕ) → fair I x i i ≡ true
  fair_self i = fair_intro i i (λ _. omega arith)

  pub ef1_intro : ((i j : ℕ) → i < I.n → j < I.n → fair I x i j ≡ true) → ef1 I x ≡ true
  unfolding ef1
  ef1_intro = pairs_intro I.n (fair I x)
