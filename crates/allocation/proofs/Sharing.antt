-- The share-out of a sheet that breaks no rule: where the run begins.
-- Assumes nothing.
use Rattle.std.specs.Prelude.{ℕ, List}
use Rattle.model.specs.Sheet.{as_read}
use Rattle.model.specs.Algorithm.{opening, after}
use Rattle.model.specs.Record.{moves_in}
use Rattle.records.proofs.Holding.{nothing_yet}
use Rattle.opening.specs.Opened.{Opened}
use Rattle.runs.specs.Runs.{Running}
use Rattle.allocation.specs.Shared.{Working}

-- no step has been done yet
pub begins : {s owners prices likes groups entitled unliked : List ℕ} → Working s groups entitled unliked → Opened s owners prices likes → (bytes : List ℕ) → Running s owners prices groups entitled bytes bytes 0 0 0
unfolding after moves_in opening as_read
begins W O bytes =
    record {
      count = 0;
      comes = rw (W.no_groups, W.none_entitled, O.opens_owners, O.opens_prices);
      noted = nothing_yet bytes;
    }
