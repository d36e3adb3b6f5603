-- `sheet::mark_at` meets its contract: the byte of a mark lies in its row.
use Rattle.sheet.proofs.Marks.{mark_row, byte_below, mark_read}
use Rattle.sheet.proofs.mark_at.Goals as goal

pub row_byte-requires : goal.row_byte-requires
row_byte-requires c = record { row_in_sheet = mark_row c.requires; k_bound = byte_below c.requires }

pub returns : goal.returns
returns c = rw (mark_read c.requires, ← c.row_byte.ensures.is) c.mark_in.ensures
