-- One move.
use Rattle.std.specs.Prelude.{ℕ, ◌<◌, ◌≡◌}

-- y is x but at k, which goes from a to another place b
pub record Moves (m : ℕ) (x y : ℕ → ℕ) (k a b : ℕ) : Type 0 where
  pub below : k < m
  pub source : x k ≡ a
  pub target : y k ≡ b
  pub apart : a ≡ b → ⊥
  pub rest : (c : ℕ) → c < m → (c ≡ k → ⊥) → x c ≡ y c
