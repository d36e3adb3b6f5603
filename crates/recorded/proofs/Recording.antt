-- The promise of `allocate_recorded`, from its parts.
-- Assumes nothing.
use Prim.Native.Nat.{ℕ, ◌*◌, ◌≤◌}
use mathlib.Core.List.{List, ◌++◌}
use mathlib.Core.Path.{◌≡◌, refl, sym, ap, subst, ◌∙◌}
use native.Mathlib.Omega.{arith}
use lib.ListN.{length, drop}
use lib.Seq.{take_at, drop_at}
use borrow.Author.Tests.{le-ltb}
use Rattle.finite.proofs.Tests.{cond_false}
use Rattle.std.specs.Prelude.{Result, Ok}
use Rattle.model.specs.declared.Refusal.{Refusal}
use Rattle.model.specs.declared.ShareOut.{ShareOut}
use Rattle.model.specs.Sheet.{agents_of, chores_of, as_read}
use Rattle.model.specs.Record.{Move, move_size, record_of}
use Rattle.model.specs.MostMoves.{most_moves}
use Rattle.model.specs.Refusals.{record_refusal, recorded_refusal}
use Rattle.model.specs.Replies.{refused}
use Rattle.model.specs.Promises.{Written, Recorded}
use Rattle.model.proofs.Record.{read_back}
use Rattle.model.proofs.Refusing.{Left}
use Rattle.model.proofs.Unique.{unique}
use Rattle.records.specs.Noted.{Holding}
use Rattle.records.proofs.Bytes.{record_length}
use Rattle.sheet.specs.Valid.{Valid}
use Rattle.sheet.proofs.Refusal.{accepted, record_room, recorded_taken}
use Rattle.algorithm.proofs.Theorem.{few_of}
use Rattle.algorithm.proofs.RunMoves.{run_of, moves_are_lem}
use Rattle.allocation.specs.Shared.{Shared, SharedWith}
use Rattle.allocation.proofs.Accepting.{is_fine}
use Rattle.recorded.specs.Moves.{moves_for}

-- a run that has ended has counted them
pub counts_them : {s x p lent bytes : List ℕ} {moves cuts : ℕ} → Valid s → Shared s x p lent bytes moves cuts → moves ≡ length (moves_for s)
unfolding moves_for
counts_them {s} v S =
    let R = run_of s (accepted s v) in
    let E = S.ended.ends in
    sym (R.leads.count ∙ ap (λ y. y.moves) (unique (as_read s) R.ends.steps E.steps R.final _ R.ends.ends E.ends))

-- room for the most moves is room for them
pub most_fit : {s : List ℕ} {most : ℕ} (bytes : ℕ) → Valid s → most ≡ most_moves (agents_of s) (chores_of s) → record_refusal most bytes ≡ 0 → record_refusal (length (moves_for s)) bytes ≡ 0
unfolding record_refusal moves_for
most_fit {s} {most} bytes v is e =
    let valid = accepted s v in
    let R = run_of s valid in
    let room = record_room most bytes e in
    cond_false _ _ (le-ltb bytes (move_size * length (moves_for s)) (omega (arith, room, is, R.leads.count, (few_of s valid R.final R.ends).in_all)))

-- the moves fit, so they stand first and the rest is kept
written : {moves : List Move} {lent bytes : List ℕ} → move_size * length moves ≤ length lent → Holding moves lent bytes → Written moves lent bytes
written {moves} {lent} {bytes} h H =
    let rest = drop (move_size * length moves) lent in
    let is : bytes ≡ record_of moves ++ rest = H.first h in
    record {
      first = rw is (take_at (record_of moves) rest _ (record_length moves));
      rest = rw is (drop_at (record_of moves) rest _ (record_length moves));
      again = λ k l. rw is (read_back moves rest k l);
    }

abbrev refusal : List ℕ → List ℕ → List ℕ → List ℕ → List ℕ → ℕ
refusal s owners prices scratch lent =
    recorded_refusal s (length owners) (length prices) (length scratch) (length (moves_for s)) (length lent)

module _ {s owners prices scratch lent : List ℕ} where
  pub refused_kept : {r : Result ShareOut Refusal} → Left r (refusal s owners prices scratch lent) → Recorded s owners prices scratch lent owners prices scratch lent r
  unfolding moves_for
  refused_kept L =
      record {
        moves = moves_for s;
        run = run_of s;
        not_refused = λ z. let p = L.positive in absurd (omega (arith, z, p));
        turned_down = λ n. (record { answer = rw L.is (ap refused L.number); owners_kept = refl; prices_kept = refl; scratch_kept = refl }, refl);
      }

  pub recorded_out : {owners' prices' scratch' bytes : List ℕ} {out : ShareOut} → refusal s owners prices scratch lent ≡ 0 → SharedWith s owners prices scratch lent owners' prices' scratch' bytes out → Recorded s owners prices scratch lent owners' prices' scratch' bytes (Ok out)
  unfolding moves_for
  recorded_out {bytes = bytes} e S =
      let room = recorded_taken s (length owners) (length prices) (length scratch) (length (moves_for s)) (length lent) e in
      let valid = (is_fine s (length owners) (length prices) (length scratch) room.0).unbroken in
      let noted = subst (λ moves. Holding moves lent bytes) (sym (moves_are_lem s valid S.ends)) S.noted in
      record {
        moves = moves_for s;
        run = run_of s;
        not_refused = λ _. (S.allocated, written room.1 noted);
        turned_down = λ n. absurd (n e);
      }
