-- Document 01, "The book": a whole book, shared out sheet by sheet. `finals j` is the state in which sheet j, counted from 0, ends.
use Rattle.std.specs.Prelude.{ℕ, zero, suc, Bool, cond, List, [], ◌++◌, eqb, ltb, drop}
use Rattle.finite.specs.Sums.{sum_to}
use Rattle.model.specs.Sheet.{agents_of, chores_of}
use Rattle.model.specs.Contents.{sheet_count, sheet_of}
use Rattle.model.specs.Algorithm.{State}
use Rattle.model.specs.Refusals.{sheet_refusal}
use Rattle.model.specs.MostMoves.{most_moves}
use Rattle.model.specs.Replies.{Reply, refused, shared_at, absent}

module _ (book : List ℕ) where
  -- "then each sheet's own number"
  unfoldable pub own_refusal : ℕ → ℕ
  own_refusal j = sheet_refusal (sheet_of book j)

  -- sheet j breaks no rule
  unfoldable pub takes_sheet : ℕ → Bool
  takes_sheet j = eqb (own_refusal j) 0

  -- "A refused sheet takes no entries.": how many entries sheet j takes
  unfoldable pub entries_of : ℕ → ℕ
  entries_of j = cond (takes_sheet j) (chores_of (sheet_of book j)) 0

  -- "the owners of each sheet go into the next free stretch of one long list": the first entry of sheet j, "counted from 0"
  unfoldable pub first_entry : ℕ → ℕ
  first_entry j = sum_to j entries_of

  -- of the accepted sheets together, what `counted` says of each
  unfoldable pub over_accepted : (ℕ → ℕ) → ℕ
  over_accepted counted = sum_to (sheet_count book) (λ j. cond (takes_sheet j) (counted j) 0)

  -- the most moves of a whole book
  unfoldable pub most_in_book : ℕ
  most_in_book = over_accepted (λ j. most_moves (agents_of (sheet_of book j)) (chores_of (sheet_of book j)))

  module _ (finals : ℕ → State) where
    -- "For each sheet the call tells either its refusal number or its moves, cuts and first entry"; nothing from the count on
    unfoldable pub sheet_answer : ℕ → Reply
    sheet_answer j =
        cond (ltb j (sheet_count book))
        (cond (takes_sheet j) (shared_at (finals j).moves (finals j).cuts (first_entry j)) (refused (own_refusal j)))
        absent

    -- what the first j sheets write into one of the long lists, where `written` is what the share-out of one sheet writes
    unfoldable pub stretches : (State → List ℕ) → ℕ → List ℕ
    stretches written zero = []
    stretches written (suc j) = stretches written j ++ cond (takes_sheet j) (written (finals j)) []

    -- the whole of that list at exit: "the stretches of its accepted sheets are written and the rest keep theirs"
    unfoldable pub long_list : (State → List ℕ) → List ℕ → List ℕ
    long_list written lent =
        stretches written (sheet_count book) ++ drop (first_entry (sheet_count book)) lent

    -- "One running tally of moves and cuts is carried through the book."
    unfoldable pub tally_of : (State → ℕ) → ℕ
    tally_of counted = over_accepted (λ j. counted (finals j))
