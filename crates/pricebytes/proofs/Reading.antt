-- Laws of reading prices from bytes.
-- Assumes nothing.
use Prim.Native.Nat.{ℕ, ◌+◌, ◌*◌, ◌/◌, ◌≤◌}
use mathlib.Core.List.{List, ◌++◌}
use mathlib.Core.Path.{◌≡◌, ◌∙◌}
use native.Mathlib.Omega.{arith}
use lib.ListN.{length, get_or, take}
use lib.Seq.{take_at, take_all, length-take-le}
use Rattle.finite.proofs.Lists.{tab_length, tab_at}
use Rattle.pricebytes.specs.PriceBytes.{price_at, prices_in}

module _ (bytes : List ℕ) where
  pub prices_count : length (prices_in bytes) ≡ length bytes / 4
  unfolding prices_in
  prices_count = tab_length _ _

  pub prices_at : (c : ℕ) → 4 * c + 4 ≤ length bytes → get_or (prices_in bytes) c 0 ≡ price_at bytes c
  unfolding prices_in
  prices_at c l = tab_at (price_at bytes) c 0 (omega arith)

  -- all n prices, as they stand in a list that they were read into
  pub prices_all : (n : ℕ) (rest : List ℕ) → length bytes ≡ 4 * n → take n (take n (prices_in bytes) ++ rest) ≡ prices_in bytes
  prices_all n rest e =
      take_at (take n (prices_in bytes)) rest n (length-take-le n _ (omega (arith, prices_count)))
      ∙ take_all n (prices_in bytes) (omega (arith, prices_count))
