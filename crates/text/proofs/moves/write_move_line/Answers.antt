use Rattle.text.proofs.Moving.{line_shown}
use Rattle.text.proofs.moves.write_move_line.Goals as goal

pub returns : goal.returns
returns g c = rw (line_shown c.args.bytes.now c.fits-bytes _ c.from_be_bytes-chore.ensures) c.writeln.ensures.bytes
