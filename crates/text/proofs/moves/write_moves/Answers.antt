use Rattle.std.proofs.KnownBytes.{Appends-nil, Appends-trans}
use Rattle.std.proofs.lemmas.List.{take_all}
use Rattle.text.proofs.Moving.{lines_next, record_lines}
use Rattle.text.proofs.moves.write_moves.Goals as goal

pub loop-six-init : goal.loop-six-init
loop-six-init g c = Appends-nil _

pub loop-six-preserved : goal.loop-six-preserved
loop-six-preserved g c = rw (lines_next _ _ c.loop-six-test.true) (Appends-trans _ _ _ _ _ c.loop-six.invariant c.in_ok-write_move_line.ensures)

pub returns : goal.returns
returns g c = λ ms e. rw (take_all _ _ c.loop-six-test.false, c.as_chunks.ensures.front, record_lines _ ms e) at c.loop-six.invariant
