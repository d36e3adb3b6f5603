-- `pricecheck::check_prices` meets its contract: each answer by its law.
use mathlib.Core.Path.{◌≡◌, refl, sym}
use Rattle.model.specs.Refusals.{price_refusal}
use Rattle.model.proofs.Refusing.{left}
use Rattle.pricecheck.specs.Parts.{PricesGiven}
use Rattle.pricecheck.proofs.Refusals.{prices_given, given_held}
use Rattle.pricecheck.proofs.Envy.{check_off, check_on}
use Rattle.given.proofs.Found.{found_is, found_none}
use Rattle.pricecheck.proofs.Checked.{checked, not_checked}
use Rattle.pricecheck.proofs.check_prices.Goals as goal
use Rattle.pricecheck.proofs.check_prices.Goals.{In_ok-sheet}

-- the lists are not turned down
judged : (c : In_ok-sheet) → price_refusal c.in_ok-sheet.sheet c.args.owners.now c.args.prices.now ≡ 0
judged c = rw c.in_ok-sheet.ensures.same (sym c.in_ok-sheet.ensures.number)

given : (c : In_ok-sheet) → PricesGiven c.in_ok-sheet.sheet c.args.owners.now c.args.prices.now
given c = prices_given _ _ _ (judged c)

pub returns-in_err-sheet : goal.returns-in_err-sheet
returns-in_err-sheet c = not_checked (left c.from_residual.result _ c.from_residual.ensures.1 c.in_err-sheet.ensures.number)

pub first_off_price-requires : goal.first_off_price-requires
first_off_price-requires c = given (goal.at.first_off_price-requires c).In_ok-sheet

pub returns-in-Some : goal.returns-in-Some
returns-in-Some c =
    let off = found_is c.in-Some.ensures.is in
    rw (← c.in_ok-sheet.ensures.same)
    (checked (check_off _ _ _ (judged (goal.at.returns-in-Some c).In_ok-sheet) off.0 c.in-Some.ensures.within))

pub envy_verdict-requires : goal.envy_verdict-requires
envy_verdict-requires c =
    let g = given (goal.at.envy_verdict-requires c).In_ok-sheet in
    record { held = given_held g; n_le_max_agents = rw c.agents.ensures.is g.given.valid.agents_fit }

pub returns : goal.returns
returns c =
    let at = (goal.at.returns c).In_ok-sheet in
    rw (← c.in_ok-sheet.ensures.same)
    (checked (check_on _ _ _ (judged at) refl (given at).given.size (found_none c.in_default.ensures.is) (rw c.agents.ensures.is at c.envy_verdict.ensures)))
