-- Six stores in a row.
use Rattle.model.specs.Record.{round_of, move_bytes}
use Rattle.records.proofs.Bytes.{six_stores}
use Rattle.records.proofs.write_move.Goals as goal

pub returns : goal.returns
unfolding move_bytes round_of
returns c = rw (← c.step_of-step.ensures) (six_stores c.args.record.now c.args.at _ _ _ _ _ _)
