use Rattle.std.proofs.Common.{refl}
use Rattle.why.proofs.Telling.{left_text}
use Rattle.why.proofs.told.shared_text.Goals as goal

pub returns : goal.returns
returns g c = left_text c.requires.left c.requires.noted _ _ c.run_lines.result c.args.number c.chores-m.ensures.is refl c.opening_owners.ensures c.run_lines.ensures
