-- `strands::seam_bits` meets its contract.
use Rattle.strands.proofs.Rows.{seam_none, seam_read}
use Rattle.strands.proofs.seam_bits.Goals as goal

pub returns-then-rest-eq0 : goal.returns-then-rest-eq0
returns-then-rest-eq0 c = seam_none c.args.row.now c.args.m c.requires c.if-rest-eq0.true

pub returns : goal.returns
returns c = seam_read c.args.row.now c.args.m c.byte_at.ensures
