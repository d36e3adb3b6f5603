-- `callocation::allocate_recorded_with` meets its contract, as `allocate_with` does.
use native.Mathlib.Omega.{arith}
use borrow.Author.Rules.{rules}
use Rattle.callocation.proofs.Lending.{first_lent}
use Rattle.callocation.proofs.Recording.{tellable_too, recorded_in_c}
use Rattle.callocation.proofs.allocate_recorded_with.Goals as goal

pub told_out-requires : goal.told_out-requires
told_out-requires c =
    tellable_too (first_lent _ c.lent_for-entries.ensures (omega arith) c.allocate_recorded-answer.auto.prices (λ i. search rules)) c.allocate_recorded-answer.ensures

pub returns : goal.returns
returns c =
    recorded_in_c (first_lent _ c.lent_for-entries.ensures (omega arith) c.allocate_recorded-answer.auto.prices (λ i. search rules)) c.allocate_recorded-answer.ensures c.told_out.ensures
