-- Double counting: a sum taken fibre by fibre of a map x.
-- Assumes nothing.
use Prim.Native.Nat.{ℕ, ◌*◌, ◌<◌}
use mathlib.Core.Bool.{cond}
use mathlib.Core.Path.{◌≡◌, sym, ◌∙◌}
use lib.Dec.{eqb}
use Rattle.finite.specs.Sums.{sum_to, sum_where}
use Rattle.finite.proofs.Sums.{sum_cong, sum_swap}
use Rattle.finite.proofs.Where.{where_scale, where_at}

module _ (n m : ℕ) (x : ℕ → ℕ) where
  -- values that may depend on the fibre too
  pub fibres_of : (g : ℕ → ℕ → ℕ) → ((c : ℕ) → c < m → x c < n) → sum_to n (λ i. sum_where m (λ c. eqb (x c) i) (g i)) ≡ sum_to m (λ c. g (x c) c)
  unfolding sum_where
  fibres_of g h =
      sum_swap n m (λ i c. cond (eqb (x c) i) (g i c) 0) ∙ sum_cong m (λ c l. where_at (λ i. g i c) (x c) (h c l))

  pub fibres : (f : ℕ → ℕ) → ((c : ℕ) → c < m → x c < n) → sum_to n (λ i. sum_where m (λ c. eqb (x c) i) f) ≡ sum_to m f
  fibres f h = fibres_of (λ i. f) h

  -- each fibre with a weight
  pub fibres_weight : (w : ℕ → ℕ) (g : ℕ → ℕ → ℕ) → ((c : ℕ) → c < m → x c < n) → sum_to n (λ i. w i * sum_where m (λ c. eqb (x c) i) (g i)) ≡ sum_to m (λ c. w (x c) * g (x c) c)
  fibres_weight w g h =
      sum_cong n (λ i l. sym (where_scale m (w i) (λ c. eqb (x c) i) (g i))) ∙ fibres_of (λ i c. w i * g i c) h
