-- The three answers of the list check.
-- Assumes nothing.
use Prim.Native.Nat.{ℕ, ◌+◌, ◌≤◌}
use mathlib.Core.Bool.{Bool, true, false, cond}
use mathlib.Core.Path.{◌≡◌, refl}
use native.Mathlib.Omega.{arith}
use Rattle.model.specs.Instance.{Instance}
use Rattle.model.specs.Fairness.{dominated}
use Rattle.model.specs.Slack.{even_up_to}
use Rattle.model.specs.Replies.{holds, unfair, wasteful}
use Rattle.model.specs.Verdicts.{envies, list_verdict}
use Rattle.welfare.proofs.Slack.{uneven, even_larger}
use Rattle.model.proofs.Pairs.{FirstPair, pair_first, pair_second}

holds_parts : (even waste : Bool) (i j : ℕ) → cond even (cond waste wasteful holds) (unfair i j) ≡ holds → (even ≡ true) × (waste ≡ false)
holds_parts true true i j e = let z : ◌≡◌ {A = ℕ} 0 1 = cc in absurd (omega arith)
holds_parts true false i j e = (refl, refl)
holds_parts false waste i j e = let z : ◌≡◌ {A = ℕ} 0 1 = cc in absurd (omega arith)

module _ (t : ℕ) (I : Instance) (x : ℕ → ℕ) where
  pub verdict_unfair : {i j : ℕ} → FirstPair I.n (envies t I x) i j → list_verdict t I x ≡ unfair (i + 1) (j + 1)
  unfolding list_verdict
  verdict_unfair {i} {j} f = rw (uneven I x t i j f.left f.right f.passes, pair_first f, pair_second f)

  pub verdict_wasteful : even_up_to t I x ≡ true → dominated I x ≡ true → list_verdict t I x ≡ wasteful
  unfolding list_verdict
  verdict_wasteful e d = rw (e, d)

  pub verdict_holds : even_up_to t I x ≡ true → dominated I x ≡ false → list_verdict t I x ≡ holds
  unfolding list_verdict
  verdict_holds e d = rw (e, d)

  verdict_elim : list_verdict t I x ≡ holds → (even_up_to t I x ≡ true) × (dominated I x ≡ false)
  unfolding list_verdict
  verdict_elim e = holds_parts (even_up_to t I x) (dominated I x) _ _ e

-- what holds at one slack holds at every larger one
pub verdict_larger : (I : Instance) (x : ℕ → ℕ) (t u : ℕ) → t ≤ u → list_verdict t I x ≡ holds → list_verdict u I x ≡ holds
verdict_larger I x t u l e =
    let both = verdict_elim t I x e in
    verdict_holds u I x (even_larger I x t u l both.0) both.1
