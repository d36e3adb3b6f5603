-- Laws of a book's results, list by list.
-- Assumes nothing.
use Prim.Native.Nat.{ℕ, suc, ◌+◌, ◌<◌}
use mathlib.Core.List.{List, [], ◌∷◌, append-nil}
use mathlib.Core.Path.{◌≡◌, refl, sym, ap, ◌∙◌}
use native.Mathlib.Nat.{le_of_eq}
use native.Mathlib.Omega.{arith}
use lib.ListN.{length, get_or, take, drop, set, drop_of_length-le}
use lib.Seq.{drop-cons, get_or_at, set-get_or}
use Rattle.std.specs.Prelude.{Option, None, Result}
use Rattle.finite.specs.Lists.{tabulate}
use Rattle.finite.proofs.Lists.{over_next, tab_zero, tab_length, tab_at, tab_take}
use Rattle.model.specs.declared.Refusal.{Refusal}
use Rattle.model.specs.declared.BookResult.{BookResult}
use Rattle.model.specs.declared.SheetShare.{SheetShare}
use Rattle.model.specs.Limits.{max_sheets}
use Rattle.model.specs.Replies.{Reply, sheet_reply, reply_at}
use Rattle.model.specs.Promises.{entry_at}
use Rattle.cmodel.specs.Numbers.{refusal_after, moves_after, cuts_after, first_after}
use Rattle.cmodel.specs.Promises.{results}
use Rattle.cresults.specs.Parts.{told_to, SheetsTold, ResultsTold}

module _ (told : Reply → ℕ → ℕ) (sheets : List (Option (Result SheetShare Refusal))) (before : List ℕ) where
  abbrev entry : ℕ → ℕ
  entry j = told (reply_at sheets j) (get_or before j 0)

  to_none : before ≡ told_to 0 told sheets before
  unfolding told_to
  to_none = rw (tab_zero entry)

  module _ {k : ℕ} (l : k < length before) where
    -- the next entry is still as it was
    to_come : get_or (told_to k told sheets before) k 0 ≡ get_or before k 0
    unfolding told_to
    to_come = rw (drop-cons before k 0 l) (get_or_at (tabulate k entry) (get_or before k 0) (drop (suc k) before) 0 k (tab_length k entry))

    written : {v : ℕ} {xs ys : List ℕ} → xs ≡ told_to k told sheets before → ys ≡ set xs k v → v ≡ entry k → ys ≡ told_to (k + 1) told sheets before
    unfolding told_to
    written {v} e is h =
        let now : take k (tabulate (length before) entry) ≡ tabulate k entry = tab_take entry (omega arith) in
        let then : take (k + 1) (tabulate (length before) entry) ≡ tabulate (k + 1) entry = tab_take entry (omega arith) in
        let value : v ≡ get_or (tabulate (length before) entry) k 0 = h ∙ sym (tab_at entry k 0 l) in
        rw (is, e, ← now, ← then) (over_next (tabulate (length before) entry) before (rw (tab_length (length before) entry) l) l value)

    to_next : {xs ys : List ℕ} {reply : Reply} → xs ≡ told_to k told sheets before → reply_at sheets k ≡ reply → ys ≡ set xs k (told reply (get_or xs k 0)) → ys ≡ told_to (k + 1) told sheets before
    to_next {reply = reply} e says is = written e is (ap (told reply) (ap (λ zs. get_or zs k 0) e ∙ to_come) ∙ ap (λ r. told r (get_or before k 0)) (sym says))

  to_all : length before ≡ max_sheets → told_to max_sheets told sheets before ≡ tabulate (length before) entry
  unfolding told_to
  to_all e = rw (e, drop_of_length-le before {i = max_sheets} (le_of_eq e), append-nil)

-- a list that is not written is as it was at entry k too
pub kept : {xs ys : List ℕ} (k : ℕ) → ys ≡ xs → ys ≡ set xs k (get_or xs k 0)
kept {xs} k e = e ∙ sym (set-get_or xs k 0)

-- the four lists, which have 16 entries each
module _ {refusals moves cuts firsts : List ℕ} where
  pub told_none : {sheets : List (Option (Result SheetShare Refusal))} → SheetsTold 0 sheets refusals moves cuts firsts refusals moves cuts firsts
  told_none {sheets} =
      record {
        refusal = to_none _ sheets refusals;
        of_moves = to_none _ sheets moves;
        of_cuts = to_none _ sheets cuts;
        first = to_none _ sheets firsts;
      }

  module _ (long_refusals : length refusals ≡ max_sheets) (long_moves : length moves ≡ max_sheets) (long_cuts : length cuts ≡ max_sheets) (long_firsts : length firsts ≡ max_sheets) where
    -- one sheet more
    pub told_next :
        {sheets : List (Option (Result SheetShare Refusal))} {k : ℕ} {refusals' moves' cuts' firsts' refusals'' moves'' cuts'' firsts'' : List ℕ}
        → SheetsTold k sheets refusals moves cuts firsts refusals' moves' cuts' firsts'
        → k < max_sheets
        → (entry : Option (Result SheetShare Refusal)) → get_or sheets k None ≡ entry
        → refusals'' ≡ set refusals' k (refusal_after (sheet_reply entry) (get_or refusals' k 0))
        → moves'' ≡ set moves' k (moves_after (sheet_reply entry) (get_or moves' k 0))
        → cuts'' ≡ set cuts' k (cuts_after (sheet_reply entry) (get_or cuts' k 0))
        → firsts'' ≡ set firsts' k (first_after (sheet_reply entry) (get_or firsts' k 0))
        → SheetsTold (k + 1) sheets refusals moves cuts firsts refusals'' moves'' cuts'' firsts''
    told_next {sheets} so_far l entry is of_refusals of_moves of_cuts of_firsts =
        let says = ap sheet_reply is in
        record {
          refusal = to_next refusal_after sheets refusals (rw long_refusals l) so_far.refusal says of_refusals;
          of_moves = to_next moves_after sheets moves (rw long_moves l) so_far.of_moves says of_moves;
          of_cuts = to_next cuts_after sheets cuts (rw long_cuts l) so_far.of_cuts says of_cuts;
          first = to_next first_after sheets firsts (rw long_firsts l) so_far.first says of_firsts;
        }

    pub all_told :
        {book : BookResult} {refusals' moves' cuts' firsts' : List ℕ}
        → SheetsTold max_sheets book.sheets refusals moves cuts firsts refusals' moves' cuts' firsts'
        → ResultsTold book refusals moves cuts firsts refusals' moves' cuts' firsts' (book.tally.moves ∷ book.tally.cuts ∷ [])
    unfolding results entry_at
    all_told {book} told =
        record {
          refusal = told.refusal ∙ to_all refusal_after book.sheets refusals long_refusals;
          of_moves = told.of_moves ∙ to_all moves_after book.sheets moves long_moves;
          of_cuts = told.of_cuts ∙ to_all cuts_after book.sheets cuts long_cuts;
          first = told.first ∙ to_all first_after book.sheets firsts long_firsts;
          total = refl;
        }
