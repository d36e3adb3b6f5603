-- The three lines, one after the other.
use Rattle.std.proofs.KnownBytes.{Appends-trans}
use Rattle.std.proofs.lemmas.Result.{on_ok_weaker}
use Rattle.shares.specs.Page.{shared_lines}
use Rattle.shares.proofs.page.shared_lines.Goals as goal

pub returns : goal.returns
unfolding shared_lines
returns g c = on_ok_weaker _ (Appends-trans _ _ _ _ _ (Appends-trans _ _ _ _ _ c.in_ok-write_sheet_line.ensures c.in_ok-write_owners_line.ensures)) c.write_prices_line.ensures
