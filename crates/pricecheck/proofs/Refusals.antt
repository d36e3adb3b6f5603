-- The refusals of the price check, and what 0 means. Prices are entries from 1 to a limit, as owners are.
-- Assumes nothing.
use Prim.Native.Nat.{ℕ}
use mathlib.Core.List.{List}
use mathlib.Core.Path.{◌≡◌, sym, ◌∙◌}
use native.Mathlib.Nat.{le_trans}
use native.Mathlib.Omega.{arith}
use Rattle.model.specs.Sheet.{chores_of}
use Rattle.model.specs.Refusals.{prices_refusal, price_refusal}
use Rattle.sheet.proofs.OrElse.{or_else_zero, or_else_assoc}
use Rattle.sheet.proofs.Judged.{prices_picks}
use Rattle.given.specs.Given.{given_refusal}
use Rattle.totals.specs.Totals.{Held}
use Rattle.pricecheck.specs.Parts.{PricesGiven}
use Rattle.given.proofs.Given.{given}

-- what the refusal being 0 gives
pub prices_given : (s owners prices : List ℕ) → price_refusal s owners prices ≡ 0 → PricesGiven s owners prices
unfolding price_refusal
prices_given s owners prices e =
    let both = or_else_zero (given_refusal s owners) (prices_refusal (chores_of s) prices) (or_else_assoc _ _ _ ∙ e) in
    record { given = given both.0; priced = prices_picks both.1 }

module _ {s owners prices : List ℕ} (g : PricesGiven s owners prices) where
  pub given_held : Held owners prices
  given_held =
      record {
        chores = omega (arith, g.given.size, g.given.valid.chores_fit);
        prices_sized = g.priced.size ∙ sym g.given.size;
        numbered = λ c l. g.given.positive c (rw g.given.size at l);
        known = λ c l. le_trans (g.given.bounded c (rw g.given.size at l)) g.given.valid.agents_fit;
        bounded = λ c l. g.priced.bounded c (rw g.given.size at l);
      }
