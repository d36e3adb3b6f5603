-- The text of one sheet, from what its share-out left.
-- Assumes nothing.
use Prim.Native.Nat.{ℕ, ◌*◌}
use mathlib.Core.List.{List}
use mathlib.Core.Path.{◌≡◌}
use native.Mathlib.Omega.{arith}
use lib.ListN.{length, take, replicate}
use lib.Seq.{length-take-le}
use Rattle.std.specs.Prelude.{Option, Result, Ok, Err, OnOk}
use Rattle.std.specs.Io.KnownBytes.{Appends}
use Rattle.std.proofs.KnownBytes.{Appends-trans}
use Rattle.std.proofs.lemmas.List.{take-replicate, length-replicate}
use Rattle.model.specs.declared.ShareOut.{ShareOut}
use Rattle.model.specs.Limits.{max_chores}
use Rattle.model.specs.Sheet.{chores_of, as_read}
use Rattle.model.specs.Algorithm.{opening}
use Rattle.model.specs.Record.{Move, move_size, record_of}
use Rattle.sheet.specs.Valid.{Valid}
use Rattle.opening.specs.Opened.{OpenInto}
use Rattle.recorded.specs.Moves.{moves_for}
use Rattle.allocation.specs.Final.{final_of}
use Rattle.text.specs.Lines.{sheet_line, opening_line, owners_line, prices_line}
use Rattle.text.specs.Moves.{move_lines}
use Rattle.pages.specs.Printer.{text_of}
use Rattle.pages.specs.Answered.{Left}
use Rattle.pages.proofs.Answering.{accepted_text}
use Rattle.why.specs.Page.{run_lines}
use Rattle.why.specs.Told.{printer, Noted}

-- lists of an entry for each chore, cut from longer ones
pub opening_into : {s owners : List ℕ} {m : ℕ} → Valid s → length owners ≡ chores_of s → m ≡ chores_of s → OpenInto s owners (take m (replicate max_chores 0)) (take m (replicate max_chores 0))
opening_into {s} {m = m} ok sized b =
    record {
      owners_sized = sized;
      prices_sized = rw b (length-take-le (chores_of s) (replicate max_chores 0) (omega (arith, ok.chores_fit, length-replicate {A = ℕ} max_chores 0)));
      no_likes = rw b (take-replicate (chores_of s) max_chores 0 ok.chores_fit);
    }

-- the lines of a run, one after the other
pub run_sent : (a b c d e f : Option (List ℕ)) (number count cuts : ℕ) (opened bytes owners prices : List ℕ) → Appends a b (sheet_line number count cuts) → Appends b c (opening_line opened) → ((ms : List Move) → bytes ≡ record_of ms → Appends c d (move_lines ms)) → Appends d e (owners_line owners) → Appends e f (prices_line prices) → (ms : List Move) → bytes ≡ record_of ms → Appends a f (run_lines number count cuts opened ms owners prices)
unfolding run_lines
run_sent a b c d e f number count cuts opened bytes owners prices A B C D E ms is =
    let first = Appends-trans a b c _ _ A B in
    let run = Appends-trans a c d _ _ first (C ms is) in
    Appends-trans a e f _ _ (Appends-trans a d e _ _ run D) E

module _ {s owners prices bytes : List ℕ} {out : ShareOut} (L : Left printer s out.moves out.cuts owners prices) (N : Noted s bytes) where
  -- what stands first in the record is that of the moves, and with what stands first in the lists its lines are the sheet's
  pub left_text : (old new : Option (List ℕ)) {T E : Type 0} (r : Result T E) {m end : ℕ} {opened : List ℕ} (number : ℕ) → m ≡ chores_of s → end ≡ move_size * out.moves → opened ≡ (opening (as_read s)).owners → OnOk r ((ms : List Move) → take end bytes ≡ record_of ms → Appends old new (run_lines number out.moves out.cuts opened ms (take m owners) (take m prices))) → OnOk r (Appends old new (text_of printer s number))
  left_text old new (Err x) number e q o S = tt
  left_text old new (Ok x) {m} {end} {opened} number e q o S =
      let R = L.ran in
      let whole : end ≡ move_size * (final_of s).moves = omega (arith, R.count_is) in
      let noted : take end bytes ≡ record_of (moves_for s) = rw whole N.first in
      let is = accepted_text printer s number L.accepted in
      rw is (rw (e, o, R.count_is, R.cuts_are, R.owners_are, R.prices_are) at (S (moves_for s) noted))
