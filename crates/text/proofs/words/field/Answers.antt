use Rattle.text.proofs.Putting.{field_put}
use Rattle.text.proofs.words.field.Goals as goal

pub returns : goal.returns
returns c = field_put c.word-after.ensures c.number.ensures
