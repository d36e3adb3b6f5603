use Rattle.std.proofs.Common.{arith, rules, tests}
use Rattle.std.specs.Prelude.{◌≡◌, not, length}
use Rattle.std.proofs.lemmas.Bool.Decides.{nat_tests}
use Rattle.finite.proofs.Found.{all_over}
use Rattle.model.specs.Limits.{max_price, out_of_range}
use Rattle.model.specs.Fairness.{entries_in_range}
use Rattle.model.specs.Refusals.{prices_refusal}
use Rattle.pricecheck.proofs.admit_prices.Goals as goal
use Rattle.pricecheck.proofs.admit_prices.Goals.{After-all}

tested : (c : After-all) → c.all.result ≡ entries_in_range max_price (length c.args.prices.now) c.args.prices.now
unfolding entries_in_range
tested c = all_over c.args.prices.now (λ k. not (out_of_range max_price k)) _ _ c.all.result (cc) c.all.ensures.ran (λ x b q k. search (rules, tests))

pub returns-then-prices-m : goal.returns-then-prices-m
unfolding prices_refusal
returns-then-prices-m c = grind (arith, nat_tests)

pub returns-then-not-all : goal.returns-then-not-all
unfolding prices_refusal
returns-then-not-all c = grind (arith, nat_tests, tested (goal.at.returns-then-not-all c).After-all)

pub returns : goal.returns
unfolding prices_refusal
returns c = grind (arith, nat_tests, tested (goal.at.returns c).After-all)
