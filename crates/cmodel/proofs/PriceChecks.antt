-- The price check on bytes is that on numbers, where the bytes are those of m prices.
-- Assumes nothing.
use Prim.Native.Nat.{ℕ, ◌*◌}
use mathlib.Core.List.{List}
use mathlib.Core.Path.{◌≡◌}
use lib.ListN.{length}
use borrow.Author.Tests.{eq-eqb}
use Rattle.model.specs.Sheet.{chores_of}
use Rattle.model.specs.Refusals.{◌or_else◌, price_refusal}
use Rattle.model.specs.Verdicts.{price_check}
use Rattle.pricebytes.specs.PriceBytes.{prices_in}
use Rattle.cmodel.specs.Promises.{price_refusal_in_c, price_check_in_c}

pub whole : (s owners bytes : List ℕ) → length bytes ≡ 4 * chores_of s → price_check s owners (prices_in bytes) ≡ price_check_in_c s owners bytes
unfolding price_check_in_c price_refusal_in_c price_check price_refusal ◌or_else◌
whole s owners bytes e = rw (eq-eqb (length bytes) (4 * chores_of s) e)
