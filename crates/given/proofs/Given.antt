-- Laws of what both checks are given.
-- Assumes nothing.
use Prim.Native.Nat.{ℕ, ◌<◌}
use mathlib.Core.List.{List}
use mathlib.Core.Path.{◌≡◌}
use native.Mathlib.Omega.{arith}
use Rattle.finite.specs.Lists.{Picks}
use Rattle.model.specs.Instance.{owner_of}
use Rattle.model.specs.Sheet.{agents_of, chores_of, easy_weight, difficult_weight, as_marked}
use Rattle.model.specs.Refusals.{sheet_refusal, owners_refusal}
use Rattle.sheet.specs.Valid.{Valid}
use Rattle.sheet.proofs.OrElse.{or_else_zero}
use Rattle.sheet.proofs.Judged.{owners_picks}
use Rattle.sheet.proofs.Refusal.{valid}
use Rattle.given.specs.Given.{given_refusal, Given, Weighed, Owned}

-- a list of owners on a sheet
pub picks_given : {s owners : List ℕ} → Valid s → Picks (agents_of s) (chores_of s) owners → Given s owners
picks_given ok p = record { valid = ok; size = p.size; positive = p.positive; bounded = p.bounded }

-- what refusal 0 gives
pub given : {s owners : List ℕ} → given_refusal s owners ≡ 0 → Given s owners
given {s} {owners} fine =
    let both = or_else_zero (sheet_refusal s) (owners_refusal (agents_of s) (chores_of s) owners) fine in
    picks_given (valid s both.0) (owners_picks both.1)

module _ {s owners : List ℕ} (g : Given s owners) where
  pub given_picks : Picks (agents_of s) (chores_of s) owners
  given_picks = record { size = g.size; positive = g.positive; bounded = g.bounded }

  pub owner_below : (c : ℕ) → c < chores_of s → owner_of owners c < agents_of s
  unfolding owner_of
  owner_below c l = omega (arith, g.positive c l, g.bounded c l)

  -- and as the definitions have it
  pub owner_agent : (c : ℕ) → c < (as_marked s).m → owner_of owners c < (as_marked s).n
  unfolding as_marked
  owner_agent c l = owner_below c l

  pub given_owned : (c : ℕ) → c < chores_of s → Owned owners c
  given_owned c l = record { entry = omega (arith, g.size); positive = g.positive c l }

  pub given_weighed : {a b : ℕ} → a ≡ easy_weight s → b ≡ difficult_weight s → Weighed s a b
  given_weighed e d = record { valid = g.valid; easy = e; difficult = d }
