-- The text of one sheet, from what its share-out leaves: what the functions that write it are given.
use Rattle.std.specs.Prelude.{ℕ, ◌*◌, ◌≤◌, List, ◌≡◌, length, take}
use Rattle.model.specs.Sheet.{as_read}
use Rattle.model.specs.Algorithm.{opening}
use Rattle.model.specs.Record.{move_size, record_of}
use Rattle.model.specs.Refusals.{sheet_refusal, record_refusal}
use Rattle.sheet.proofs.OrElse.{or_else_zero}
use Rattle.allocation.specs.Final.{final_of}
use Rattle.recorded.specs.Moves.{moves_for}
use Rattle.pages.specs.Printer.{Printer, Unbroken}
use Rattle.why.specs.Page.{record_size, run_lines, run_refusal}

-- the refusal of the sheet s, by the moves of its run
abbrev pub refusal_of : List ℕ → ℕ
refusal_of s = run_refusal s (moves_for s)

-- a sheet by that number, or by the one state and the moves in which its run ends
abbrev pub printer : Printer
printer =
    record {
      refusal = refusal_of;
      lines = λ s number. run_lines number (final_of s).moves (final_of s).cuts (opening (as_read s)).owners (moves_for s) (final_of s).owners (final_of s).prices;
    }

-- an accepted sheet breaks no rule
pub unbroken : Unbroken printer
unfolding run_refusal
unbroken s z = (or_else_zero (sheet_refusal s) (record_refusal (length (moves_for s)) record_size) z).0

-- the moves of an accepted sheet stand first in the record that was lent
pub record Noted (s bytes : List ℕ) : Type 0 where
  pub sized : length bytes ≡ record_size
  pub fit : move_size * (final_of s).moves ≤ record_size
  pub first : take (move_size * (final_of s).moves) bytes ≡ record_of (moves_for s)

abbrev pub NotedIf : List ℕ → List ℕ → Type 0
NotedIf s bytes = refusal_of s ≡ 0 → Noted s bytes
