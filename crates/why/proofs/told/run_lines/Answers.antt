use Rattle.std.proofs.lemmas.Result.{on_ok_weaker}
use Rattle.why.proofs.Telling.{run_sent}
use Rattle.why.proofs.told.run_lines.Goals as goal

pub returns : goal.returns
returns g c = on_ok_weaker _ (run_sent _ _ _ _ _ _ _ _ _ _ _ _ _ c.in_ok-write_sheet_line.ensures c.in_ok-write_opening_line.ensures c.in_ok-write_moves.ensures c.in_ok-write_owners_line.ensures) c.write_prices_line.ensures
