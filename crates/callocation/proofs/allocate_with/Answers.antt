-- `callocation::allocate_with` meets its contract: the numbers lent are those that the bytes hold, MAX_CHORES at most; what comes back is told
-- by the laws of `Lending`.
use borrow.Author.Rules.{rules}
use Rattle.callocation.proofs.Lending.{first_lent, tellable, told_in_c}
use Rattle.callocation.proofs.allocate_with.Goals as goal

pub told_out-requires : goal.told_out-requires
told_out-requires c =
    tellable (first_lent _ c.lent_for-entries.ensures c.requires c.allocate-answer.auto.prices (λ i. search rules)) c.allocate-answer.ensures

pub returns : goal.returns
returns c =
    told_in_c (first_lent _ c.lent_for-entries.ensures c.requires c.allocate-answer.auto.prices (λ i. search rules)) c.allocate-answer.ensures c.told_out.ensures
