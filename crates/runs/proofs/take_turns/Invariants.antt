-- `runs::take_turns` meets its contract. Before each turn: the run has come to the state that the lists and counters hold, the table
-- and the view are that state's, and the scratch has its size.
use mathlib.Core.Path.{◌≡◌}
use lib.ListN.{length}
use Rattle.model.specs.Limits.{scratch_size}
use Rattle.model.specs.Sheet.{as_read}
use Rattle.algorithm.specs.Reached.{step_number}
use Rattle.steps.specs.Turns.{state_of, Tabled}
use Rattle.runs.specs.Runs.{Running, Kit, Sees}
use Rattle.runs.proofs.take_turns.Given as goal

abbrev pub invariant-loop-chore : goal.invariant-loop-chore
invariant-loop-chore l = record {
  kit : Kit l.sheet l.likes;
  running : Running l.sheet l.owners l.prices l.groups l.entitled l.initial.«record» l.«record» l.at.moves l.at.cuts l.at.stage;
  tabled : Tabled l.sheet l.owners l.prices l.groups l.entitled l.likes l.table.first l.table.sets;
  sees : Sees l.sheet l.groups l.at.view;
  scratch_sized : length l.scratch ≡ scratch_size;
}

abbrev pub decreases-loop-chore : goal.decreases-loop-chore
decreases-loop-chore l = step_number (as_read l.sheet) (state_of l.owners l.prices l.groups l.entitled l.at.moves l.at.cuts l.at.stage)
