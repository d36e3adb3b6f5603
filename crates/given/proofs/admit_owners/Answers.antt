use Rattle.std.proofs.Common.{arith, rules, tests}
use Rattle.std.specs.Prelude.{◌≡◌, not, length}
use Rattle.std.proofs.lemmas.Bool.Decides.{nat_tests}
use Rattle.finite.proofs.Found.{all_over}
use Rattle.model.specs.Limits.{out_of_range}
use Rattle.model.specs.Sheet.{agents_of}
use Rattle.model.specs.Fairness.{entries_in_range}
use Rattle.model.specs.Refusals.{◌or_else◌, owners_refusal}
use Rattle.given.proofs.admit_owners.Goals as goal
use Rattle.given.proofs.admit_owners.Goals.{After-all}

tested : (c : After-all) → c.all.result ≡ entries_in_range (agents_of c.args.sheet.now) (length c.args.owners.now) c.args.owners.now
unfolding entries_in_range
tested c = all_over c.args.owners.now (λ k. not (out_of_range (agents_of c.args.sheet.now) k)) _ _ c.all.result (cc) c.all.ensures.ran (λ x b q k. search (rules, tests))

pub returns-then-owners-chores : goal.returns-then-owners-chores
unfolding owners_refusal ◌or_else◌
returns-then-owners-chores c = grind (arith, nat_tests)

pub returns-then-not-all : goal.returns-then-not-all
unfolding owners_refusal ◌or_else◌
returns-then-not-all c = grind (arith, nat_tests, tested (goal.at.returns-then-not-all c).After-all)

pub returns : goal.returns
unfolding owners_refusal ◌or_else◌
returns c = grind (arith, nat_tests, tested (goal.at.returns c).After-all)
