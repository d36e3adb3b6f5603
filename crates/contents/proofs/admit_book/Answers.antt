use Rattle.std.proofs.Common.{arith}
use Rattle.std.proofs.lemmas.Bool.Decides.{nat_tests}
use Rattle.model.specs.Refusals.{contents_refusal}
use Rattle.contents.proofs.admit_book.Goals as goal

pub returns-then-not-contents_fit : goal.returns-then-not-contents_fit
unfolding contents_refusal
returns-then-not-contents_fit c = grind (arith, nat_tests)

pub returns : goal.returns
unfolding contents_refusal
returns c = grind (arith, nat_tests)
