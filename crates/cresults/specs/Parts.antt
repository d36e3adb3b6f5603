-- What the function that tells a book's results asks and leaves.
use Rattle.std.specs.Prelude.{ℕ, ◌^◌, ◌<◌, List, [], ◌∷◌, ◌++◌, Option, Result, Ok, ◌≡◌, get_or, drop}
use Rattle.finite.specs.Lists.{tabulate}
use Rattle.model.specs.declared.Refusal.{Refusal}
use Rattle.model.specs.declared.BookResult.{BookResult}
use Rattle.model.specs.declared.SheetShare.{SheetShare}
use Rattle.model.specs.Replies.{Reply, reply_at}
use Rattle.cmodel.specs.Numbers.{refusal_after, moves_after, cuts_after, first_after}
use Rattle.cmodel.specs.Promises.{results}

-- the first entry that a reply tells, if any, fits 32 bits
abbrev pub FirstFits : Reply → Type 0
FirstFits reply = first_after reply 0 < 2 ^ 32

-- one of the lists when the first n sheets are told: the entries after theirs are as they were
unfoldable pub told_to : ℕ → (Reply → ℕ → ℕ) → List (Option (Result SheetShare Refusal)) → List ℕ → List ℕ
told_to n told sheets before = tabulate n (λ j. told (reply_at sheets j) (get_or before j 0)) ++ drop n before

pub record SheetsTold (n : ℕ) (sheets : List (Option (Result SheetShare Refusal))) (refusals moves cuts firsts refusals' moves' cuts' firsts' : List ℕ) : Type 0 where
  pub refusal : refusals' ≡ told_to n refusal_after sheets refusals
  pub of_moves : moves' ≡ told_to n moves_after sheets moves
  pub of_cuts : cuts' ≡ told_to n cuts_after sheets cuts
  pub first : firsts' ≡ told_to n first_after sheets firsts

-- all results, list by list
pub record ResultsTold (book : BookResult) (refusals moves cuts firsts refusals' moves' cuts' firsts' tally' : List ℕ) : Type 0 where
  pub refusal : refusals' ≡ results refusal_after (Ok book) refusals
  pub of_moves : moves' ≡ results moves_after (Ok book) moves
  pub of_cuts : cuts' ≡ results cuts_after (Ok book) cuts
  pub first : firsts' ≡ results first_after (Ok book) firsts
  pub total : tally' ≡ book.tally.moves ∷ book.tally.cuts ∷ []

-- each first entry fits
abbrev pub FirstsFit : BookResult → Type 0
FirstsFit book = (j : ℕ) → FirstFits (reply_at book.sheets j)
