-- The digits that are copied are the number's.
use Rattle.text.proofs.Putting.{number_put}
use Rattle.text.proofs.words.number.Goals as goal

pub returns : goal.returns
returns c = number_put _ c.decimal-k.ensures.len c.decimal-k.ensures.digits c.ranges.n.fits c.word.ensures
