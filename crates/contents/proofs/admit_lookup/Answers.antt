-- The contents decide, or else the number.
use Rattle.std.proofs.Common.{arith, sym}
use Rattle.std.proofs.lemmas.Bool.Decides.{nat_tests}
use Rattle.model.specs.Refusals.{◌or_else◌, lookup_refusal}
use Rattle.model.proofs.Refusing.{at_exit}
use Rattle.contents.proofs.Refusal.{fits}
use Rattle.contents.proofs.admit_lookup.Goals as goal

pub returns-in_err-admit_book : goal.returns-in_err-admit_book
unfolding lookup_refusal ◌or_else◌
returns-in_err-admit_book c = let e = at_exit c.from_residual.result _ c.from_residual.ensures.1 c.in_err-admit_book.ensures in grind (arith, nat_tests, e)

pub count-requires : goal.count-requires
count-requires c = (fits _ (sym c.in_ok-admit_book.ensures)).some_byte

pub returns-then-out_of_range : goal.returns-then-out_of_range
unfolding lookup_refusal ◌or_else◌
returns-then-out_of_range c = grind (arith, nat_tests)

pub returns : goal.returns
unfolding lookup_refusal ◌or_else◌
returns c = grind (arith, nat_tests)
