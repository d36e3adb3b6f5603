-- How a call that is turned down leaves: a refusal's number is not 0, and `?` hands on the refusal that it met.
use Rattle.std.specs.Prelude.{ℕ, ◌<◌, ◌≡◌, true, refl, Result, Ok, Err}
use Rattle.std.proofs.Common.{arith, true≢false, ◌∙◌, ap}
use Rattle.std.specs.Result.{IsErrAnd, is_ok}
use Rattle.std.proofs.lemmas.Result.{err_from_is_err_and}
use Rattle.model.specs.declared.Refusal.{Refusal}
use Rattle.model.specs.RefusalNumbers.{refusal_number, number_of}

pub numbered : (refusal : Refusal) → 0 < refusal_number refusal
numbered Refusal.Agents = omega arith
numbered Refusal.Chores = omega arith
numbered Refusal.Weights = omega arith
numbered Refusal.Marks = omega arith
numbered Refusal.Length = omega arith
numbered Refusal.OwnerCount = omega arith
numbered Refusal.Owner = omega arith
numbered Refusal.Lent = omega arith
numbered Refusal.NotThere = omega arith
numbered Refusal.Prices = omega arith
numbered Refusal.Record = omega arith
numbered Refusal.Strands = omega arith
numbered Refusal.Slack = omega arith
numbered Refusal.Multiple = omega arith

-- at the exit of a `?`, where the call that it follows was turned down with number a: so is the caller, and a is not 0
pub at_exit : {A : Type 0} {a : ℕ} (r : Result A Refusal) (met : Refusal) → IsErrAnd r (λ e. e ≡ met) → refusal_number met ≡ a → (number_of r ≡ a) × (0 < a)
at_exit r met left e =
    let p = err_from_is_err_and r left in
    (ap number_of p.1 ∙ ap refusal_number p.2 ∙ e, rw e at (numbered met))

-- the same, with the refusal itself
pub record Left {A : Type 0} (r : Result A Refusal) (a : ℕ) : Type 0 where
  pub refusal : Refusal
  pub is : r ≡ Err refusal
  pub number : refusal_number refusal ≡ a
  pub positive : 0 < a

pub left : {A : Type 0} {a : ℕ} (r : Result A Refusal) (met : Refusal) → IsErrAnd r (λ e. e ≡ met) → refusal_number met ≡ a → Left r a
left r met h e =
    let p = err_from_is_err_and r h in
    record { refusal = p.0; is = p.1; number = ap refusal_number p.2 ∙ e; positive = (at_exit r met h e).1 }

-- what is not turned down has no number
pub taken : {A : Type 0} (r : Result A Refusal) → true ≡ is_ok r → number_of r ≡ 0
taken (Ok x) e = refl
taken (Err refusal) e = absurd (true≢false e)
