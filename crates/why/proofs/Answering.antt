-- What `allocate_recorded` promises, for a sheet to whose share-out lists of enough entries and a record of record_size bytes are lent.
-- Assumes nothing.
use Prim.Native.Nat.{ℕ, ◌*◌}
use mathlib.Core.List.{List}
use mathlib.Core.Path.{◌≡◌, sym, ap, ◌∙◌}
use native.Mathlib.Omega.{arith}
use lib.ListN.{length, take}
use Rattle.finite.proofs.Below.{by_same}
use Rattle.std.specs.Prelude.{Result}
use Rattle.model.specs.declared.Refusal.{Refusal}
use Rattle.model.specs.declared.ShareOut.{ShareOut}
use Rattle.model.specs.Limits.{max_chores, scratch_size}
use Rattle.model.specs.Record.{move_size, record_of}
use Rattle.model.specs.Refusals.{◌or_else◌, sheet_refusal, record_refusal, recorded_refusal}
use Rattle.model.specs.Promises.{Recorded}
use Rattle.sheet.proofs.OrElse.{or_else_first}
use Rattle.sheet.proofs.Refusal.{recorded_taken}
use Rattle.allocation.specs.Final.{final_of}
use Rattle.allocation.proofs.Accepting.{sheet_decides}
use Rattle.allocation.proofs.Final.{final_demand3}
use Rattle.algorithm.proofs.RunMoves.{moves_are_lem}
use Rattle.recorded.specs.Moves.{moves_for}
use Rattle.pages.specs.Answered.{Answered}
use Rattle.pages.proofs.Answering as answering
use Rattle.why.specs.Page.{record_size, run_refusal}
use Rattle.why.specs.Told.{printer, unbroken, refusal_of, Noted}

-- what is lent, and what comes back
module _ {s owners prices scratch bytes owners' prices' scratch' bytes' : List ℕ} {r : Result ShareOut Refusal} (o : max_chores ≡ length owners) (p : max_chores ≡ length prices) (c : scratch_size ≡ length scratch) (b : record_size ≡ length bytes) (R : Recorded s owners prices scratch bytes owners' prices' scratch' bytes' r) where
  -- whatever moves the promise speaks of, they are those of the run
  moves_same : sheet_refusal s ≡ 0 → R.moves ≡ moves_for s
  unfolding moves_for
  moves_same z = (R.run z).in_order ∙ sym (moves_are_lem s z (R.run z).ends)

  count_same : sheet_refusal s ≡ 0 → length R.moves ≡ (final_of s).moves
  count_same z = (R.run z).leads.count ∙ ap (λ x. x.moves) ((final_demand3 s z).only (R.run z).final (R.run z).ends)

  abbrev number : ℕ
  number = recorded_refusal s (length owners) (length prices) (length scratch) (length R.moves) (length bytes)

  number_is : number ≡ refusal_of s
  unfolding recorded_refusal run_refusal
  number_is =
      let is = sheet_decides s (length owners) (length prices) (length scratch) (omega arith) (omega arith) (omega arith) in
      ap (λ a. a or_else record_refusal (length R.moves) (length bytes)) is
      ∙ by_same (sheet_refusal s) 0
      (λ z. rw (moves_same z, b))
      (λ h. or_else_first _ h ∙ sym (or_else_first _ h))

  pub answered : length owners' ≡ length owners → length prices' ≡ length prices → Answered printer s owners' prices' r
  answered o' p' =
      answering.answered printer unbroken number_is
      (λ z. (R.not_refused z).0.not_refused (recorded_taken s (length owners) (length prices) (length scratch) (length R.moves) (length bytes) z).0)
      (λ h. (R.turned_down h).0) (omega arith) (omega arith)

  pub noted : length bytes' ≡ length bytes → refusal_of s ≡ 0 → Noted s bytes'
  noted b' accepted =
      let fine = unbroken s accepted in
      let z : number ≡ 0 = number_is ∙ accepted in
      let taken = recorded_taken s (length owners) (length prices) (length scratch) (length R.moves) (length bytes) z in
      record {
        sized = b' ∙ sym b;
        fit = omega (arith, count_same fine, taken.1);
        first = ap (λ k. take (move_size * k) bytes') (sym (count_same fine)) ∙ (R.not_refused z).1.first ∙ ap record_of (moves_same fine);
      }
