use Rattle.model.specs.Sheet.{as_read}
use Rattle.model.specs.Algorithm.{opening}
use Rattle.why.proofs.Telling.{opening_into}
use Rattle.why.proofs.told.opening_owners.Goals as goal

pub open-requires : goal.open-requires
open-requires c = opening_into c.chores-m.ensures.valid c.requires c.chores-m.ensures.is

pub returns : goal.returns
unfolding opening as_read
returns c = c.«open».ensures.opens_owners
