-- The contents decide, or else what is lent.
use Rattle.std.specs.Prelude.{◌≡◌, Result}
use Rattle.std.specs.Result.{IsErrAnd}
use Rattle.std.proofs.Common.{arith, refl}
use Rattle.std.proofs.lemmas.Bool.Decides.{nat_tests}
use Rattle.model.specs.declared.Refusal.{Refusal}
use Rattle.model.specs.RefusalNumbers.{refusal_number, number_of}
use Rattle.model.specs.Refusals.{◌or_else◌, lent_refusal, book_refusal}
use Rattle.model.proofs.Refusing.{numbered, at_exit}
use Rattle.book.proofs.refusal.admit.Goals as goal

-- at the exit of a `?` the number is that of the refusal that it met
exit : {A : Type 0} (r : Result A Refusal) (met : Refusal) → IsErrAnd r (λ e. e ≡ met) → number_of r ≡ refusal_number met
exit r met h = (at_exit r met h refl).0

pub returns-in_err-admit_book : goal.returns-in_err-admit_book
unfolding book_refusal ◌or_else◌ lent_refusal
returns-in_err-admit_book c = grind (arith, nat_tests, exit, numbered)

pub returns-in_err-admit_lent : goal.returns-in_err-admit_lent
unfolding book_refusal ◌or_else◌ lent_refusal
returns-in_err-admit_lent c = grind (arith, nat_tests, exit, numbered)

pub returns-in_err-admit_lent-2 : goal.returns-in_err-admit_lent-2
unfolding book_refusal ◌or_else◌ lent_refusal
returns-in_err-admit_lent-2 c = grind (arith, nat_tests, exit, numbered)

pub returns : goal.returns
unfolding book_refusal ◌or_else◌ lent_refusal
returns c = grind (arith, nat_tests)
