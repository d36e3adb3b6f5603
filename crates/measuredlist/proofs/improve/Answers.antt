use native.Mathlib.Nat.{le_refl}
use Rattle.given.proofs.Given.{picks_given}
use Rattle.measuredlist.proofs.Improving.{replaced, replaced_cheaper, last}
use Rattle.measuredlist.proofs.improve.Goals as goal

pub loop-spare-init : goal.loop-spare-init
loop-spare-init c = record { given = picks_given c.chores-m.ensures.valid c.requires; none_more = λ i l. le_refl _ }

pub loop-spare-smaller : goal.loop-spare-smaller
loop-spare-smaller c = rw (c.copy_from_slice.ensures.after, c.chores-m.ensures.is) (replaced_cheaper c.loop-spare.invariant (c.show_waste.ensures.shown c.loop-spare-test.true))

pub loop-spare-preserved : goal.loop-spare-preserved
loop-spare-preserved c = rw (c.copy_from_slice.ensures.after, c.chores-m.ensures.is) (replaced c.loop-spare.invariant (c.show_waste.ensures.shown c.loop-spare-test.true))

pub returns : goal.returns
returns c = last c.loop-spare.invariant c.loop-spare-test.ensures.answer
