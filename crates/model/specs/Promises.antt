-- What each public call promises, refused or not. In each record plain names are the lists as handed in, and primed ones the same memory when
-- the call returns. `admit_sheet` promises `number_of r ≡ sheet_refusal sheet`, and the price check, which lends nothing, `PricesChecked`.
use Rattle.std.specs.Prelude.{ℕ, ◌≤◌, ◌<◌, ◌+◌, ◌-◌, ◌*◌, true, false, cond, List, [], ◌++◌, Result, Ok, Err, ◌≡◌, eqb, length, get_or, take, drop, replicate}
use Rattle.model.specs.declared.Refusal.{Refusal}
use Rattle.model.specs.declared.ShareOut.{ShareOut}
use Rattle.model.specs.declared.ListVerdict.{ListVerdict}
use Rattle.model.specs.declared.PriceVerdict.{PriceVerdict}
use Rattle.model.specs.declared.BookResult.{BookResult}
use Rattle.model.specs.Limits.{max_slack}
use Rattle.model.specs.Instance.{Instance, owner_of}
use Rattle.model.specs.Sheet.{agents_of, chores_of, as_marked, as_read}
use Rattle.model.specs.Strands.{joined_sheet, strand_marks, OnJoined}
use Rattle.model.specs.Contents.{sheet_count, sheet_of}
use Rattle.model.specs.Fairness.{ef1, dominates, is_allocation}
use Rattle.model.specs.Slack.{even_up_to}
use Rattle.model.specs.MaximinShare.{is_partition, bundle_cost, costliest_bundle, dealt, measures_of, within_measures}
use Rattle.model.specs.Algorithm.{State, lacking, opening, after, Ends}
use Rattle.model.specs.Record.{Move, moves_in, move_size, record_of, move_in, played, Hands, move_at}
use Rattle.model.specs.Refusals.{sheet_refusal, allocate_refusal, recorded_refusal, join_refusal, show_refusal, measures_refusal, measured_list_refusal, lookup_refusal, book_refusal}
use Rattle.model.specs.RefusalNumbers.{number_of}
use Rattle.model.specs.Replies.{Reply, refused, shared, joined, absent, holds, wasteful, accepted, share_out_reply, join_reply, list_reply, price_reply, reply_at}
use Rattle.model.specs.Verdicts.{unless_refused, list_check, price_check}
use Rattle.model.specs.MostMoves.{round_moves, most_moves}
use Rattle.model.specs.Book.{takes_sheet, sheet_answer, long_list, tally_of, most_in_book}

-- "What the share-out and an accepted price check guarantee is for t of 1 and above."
pub record HoldsFromOne (s owners : List ℕ) : Type 0 where
  -- the list is even up to every slack of 1 and above,
  pub even : (t : ℕ) → 0 < t → even_up_to t (as_marked s) (owner_of owners) ≡ true
  -- and the list check, lent enough, answers `holds` at each that it takes
  pub passes : (t lent : ℕ) → 0 < t → t ≤ max_slack → chores_of s ≤ lent → list_check s owners t lent ≡ holds

-- Demand 3: what holds of the state in which the share-out of a sheet that breaks no rule ends.
pub record Demand3 (s : List ℕ) (final : State) : Type 0 where
  -- it "runs Algorithm 1 to its end"
  pub ends : Ends (as_read s) final
  -- and that is the only state in which Algorithm 1 ends
  pub only : (x : State) → Ends (as_read s) x → x ≡ final
  -- "cuts ≤ people - 1"
  pub cuts : final.cuts < agents_of s
  -- "no step lacks its reel"
  pub never_lacks : (k : ℕ) (x : State) → after (as_read s) k ≡ lacking x → ⊥
  -- the list is m owners from 1 to n
  pub allocation : is_allocation (as_marked s) final.owners ≡ true
  -- "the list is EF1"
  pub even : ef1 (as_marked s) (owner_of final.owners) ≡ true
  -- "no list of any kind dominates it"
  pub undominated : (y : List ℕ) → is_allocation (as_marked s) y ≡ true → dominates (as_marked s) (owner_of y) (owner_of final.owners) ≡ false
  -- "the price check accepts it with the returned prices"
  pub passes : price_check s final.owners final.prices ≡ accepted
  -- document 02, request 8: and the list check passes it, at every slack of 1 and above
  pub slacks : HoldsFromOne s final.owners

-- Demand 1, no "run without end": how many moves the share-out of a sheet that breaks no rule takes at most.
pub record FewMoves (s : List ℕ) (final : State) : Type 0 where
  -- for each round: all but the last end with a cut
  pub by_rounds : final.moves ≤ (final.cuts + 1) * round_moves (agents_of s) (chores_of s)
  pub in_all : final.moves ≤ most_moves (agents_of s) (chores_of s)

-- The share-out of a sheet that is not refused.
pub record SharedOut (s owners prices scratch owners' prices' scratch' : List ℕ) (r : Result ShareOut Refusal) : Type 0 where
  pub final : State
  pub demand3 : Demand3 s final
  pub few : FewMoves s final
  pub answer : share_out_reply r ≡ shared final.moves final.cuts
  -- "the first m entries of a result list are written and the rest keep theirs"
  pub owners_written : take (chores_of s) owners' ≡ final.owners
  pub owners_kept : drop (chores_of s) owners' ≡ drop (chores_of s) owners
  pub prices_written : take (chores_of s) prices' ≡ final.prices
  pub prices_kept : drop (chores_of s) prices' ≡ drop (chores_of s) prices
  -- "the whole of the lent scratch ends as zeros"
  pub zeros : scratch' ≡ replicate (length scratch) 0

-- A refused share-out. "The number is all that is returned, and lent memory keeps its content."
pub record NotShared (k : ℕ) (owners prices scratch owners' prices' scratch' : List ℕ) (r : Result ShareOut Refusal) : Type 0 where
  pub answer : share_out_reply r ≡ refused k
  pub owners_kept : owners' ≡ owners
  pub prices_kept : prices' ≡ prices
  pub scratch_kept : scratch' ≡ scratch

-- The share-out: `allocate(sheet, owners, prices, scratch)`.
pub record Allocated (s owners prices scratch owners' prices' scratch' : List ℕ) (r : Result ShareOut Refusal) : Type 0 where
  pub not_refused : allocate_refusal s (length owners) (length prices) (length scratch) ≡ 0 → SharedOut s owners prices scratch owners' prices' scratch' r
  pub turned_down :
      (allocate_refusal s (length owners) (length prices) (length scratch) ≡ 0 → ⊥)
      → NotShared (allocate_refusal s (length owners) (length prices) (length scratch)) owners prices scratch owners' prices' scratch' r

-- These moves lead from the opening to the state s.
pub record Leads (I : Instance) (moves : List Move) (s : State) : Type 0 where
  -- "The record played over the opening list must give the final list"
  pub gives : played moves (opening I).owners ≡ s.owners
  -- "and its length is the number of moves."
  pub count : length moves ≡ s.moves
  -- each giver owns its chore when it is handed over, after the moves before it, and is not the receiver
  pub handed :
      (k : ℕ) → k < length moves
      → Hands I (owner_of (played (take k moves) (opening I).owners)) (move_at moves k).chore (move_at moves k).giver (move_at moves k).receiver
  -- rounds never fall, and end with the one after the last cut, or before
  pub in_rounds : (j k : ℕ) → j ≤ k → k < length moves → (move_at moves j).round ≤ (move_at moves k).round
  pub last_round : (k : ℕ) → k < length moves → (move_at moves k).round ≤ s.cuts + 1

-- The moves of the run of Algorithm 1 on a sheet that breaks no rule.
pub record RunMoves (s : List ℕ) (moves : List Move) : Type 0 where
  pub final : State
  pub ends : Ends (as_read s) final
  -- "for each move, in the order made"
  pub in_order : moves ≡ moves_in (as_read s) ends.steps
  pub leads : Leads (as_read s) moves final

-- The moves stand first in the record, and "the rest of the record buffer keeps its content."
pub record Written (moves : List Move) (bytes bytes' : List ℕ) : Type 0 where
  pub first : take (move_size * length moves) bytes' ≡ record_of moves
  pub rest : drop (move_size * length moves) bytes' ≡ drop (move_size * length moves) bytes
  -- read back, the bytes are these moves: what is said of them (`Leads`) is said of the record
  pub again : (k : ℕ) → k < length moves → move_in bytes' k ≡ move_at moves k

-- The share-out with a record of its moves: `allocate_recorded(sheet, owners, prices, scratch, record)`.
pub record Recorded (s owners prices scratch bytes owners' prices' scratch' bytes' : List ℕ) (r : Result ShareOut Refusal) : Type 0 where
  -- a sheet that breaks no rule has its run; another is refused whatever the moves
  pub moves : List Move
  pub run : sheet_refusal s ≡ 0 → RunMoves s moves
  -- "What was promised for the share-out without a record holds with one."
  pub not_refused :
      recorded_refusal s (length owners) (length prices) (length scratch) (length moves) (length bytes) ≡ 0
      → Allocated s owners prices scratch owners' prices' scratch' r × Written moves bytes bytes'
  pub turned_down :
      (recorded_refusal s (length owners) (length prices) (length scratch) (length moves) (length bytes) ≡ 0 → ⊥)
      → NotShared (recorded_refusal s (length owners) (length prices) (length scratch) (length moves) (length bytes)) owners prices scratch owners' prices' scratch' r
      × (bytes' ≡ bytes)

-- The list written with `wasteful`. It is free but for this: m owners from 1 to n, and it dominates the list handed in.
pub record Dominating (s owners lent lent' : List ℕ) : Type 0 where
  pub allocation : is_allocation (as_marked s) (take (chores_of s) lent') ≡ true
  pub dominating : dominates (as_marked s) (owner_of (take (chores_of s) lent')) (owner_of owners) ≡ true
  pub kept : drop (chores_of s) lent' ≡ drop (chores_of s) lent

-- The list check: `check_list(sheet, owners, slack, dominating)`. "The list check writes its result list only with `wasteful`".
pub record ListChecked (s owners : List ℕ) (slack : ℕ) (lent lent' : List ℕ) (r : Result ListVerdict Refusal) : Type 0 where
  pub answer : list_reply r ≡ list_check s owners slack (length lent)
  pub shown : list_check s owners slack (length lent) ≡ wasteful → Dominating s owners lent lent'
  pub kept : (list_check s owners slack (length lent) ≡ wasteful → ⊥) → lent' ≡ lent
  -- "A list that holds at one slack holds at every larger slack"
  pub larger : list_reply r ≡ holds → (t : ℕ) → slack ≤ t → t ≤ max_slack → list_check s owners t (length lent) ≡ holds

-- The price check: `check_prices(sheet, owners, prices)`.
pub record PricesChecked (s owners prices : List ℕ) (r : Result PriceVerdict Refusal) : Type 0 where
  pub answer : price_reply r ≡ price_check s owners prices
  -- "An accepted list also holds, whoever proposed the prices.": at every slack of 1 and above
  pub holding : price_reply r ≡ accepted → HoldsFromOne s owners

-- The lent list when two sheets were joined: "The joined sheet is written at the start of a lent list". The rest of it keeps its content, and
-- with a refusal all of it does.
unfoldable pub joined_over : List ℕ → List ℕ → List ℕ → List ℕ
joined_over first second lent =
    cond (eqb (join_refusal first second (length lent)) 0)
    (joined_sheet first second ++ drop (length (joined_sheet first second)) lent)
    lent

-- Two sheets joined: `join_sheets(first, second, joined)`.
pub record SheetsJoined (first second lent lent' : List ℕ) (r : Result ℕ Refusal) : Type 0 where
  pub answer : join_reply r ≡ unless_refused (join_refusal first second (length lent)) (joined (length (joined_sheet first second)))
  pub at_exit : lent' ≡ joined_over first second lent
  -- the joined sheet breaks no rule, so every call takes it, the measures where they take the strands
  pub taken : join_refusal first second (length lent) ≡ 0 → sheet_refusal (joined_sheet first second) ≡ 0

-- The marks that are shown, and none where that is refused.
unfoldable pub shown_marks : List ℕ → List ℕ → ℕ → ℕ → List ℕ
shown_marks first second person chore = cond (eqb (show_refusal first second person chore) 0) (strand_marks first second person chore) []

-- A person's marks out of the sheet that holds a chore: `show_marks(first, second, person, chore)`.
pub record MarksShown (first second : List ℕ) (person chore refusal : ℕ) (marks : List ℕ) : Type 0 where
  pub answer : refusal ≡ show_refusal first second person chore
  pub part : marks ≡ shown_marks first second person chore
  -- they are the joined sheet's marks of that person for that strand
  pub on_joined : refusal ≡ 0 → OnJoined first second person chore marks

-- The number v is agent i's own measure.
pub record Secured (I : Instance) (i v : ℕ) : Type 0 where
  -- "no split does better"
  pub least : (y : List ℕ) → is_partition I y ≡ true → v ≤ costliest_bundle I i y
  -- what is dealt is a split,
  pub partition : is_partition I (dealt I i) ≡ true
  -- and "each pile dealt costs at most the number returned"
  pub within : (k : ℕ) → k < I.n → bundle_cost I i (dealt I i) k ≤ v

-- A list with the numbers of the n agents in its first entries. The rest of it keeps its content, and with a refusal all of it does.
unfoldable pub measures_over : List ℕ → List ℕ → List ℕ
measures_over s before = cond (eqb (measures_refusal s) 0) (measures_of s ++ drop (agents_of s) before) before

-- Everyone's own measure: `measures(sheet)`, which "writes nothing that is lent", answers a list that held zeros before. For C it is one that is
-- lent: `measures_over(sheet, numbers)`.
pub record Measured (s before : List ℕ) (refusal : ℕ) (after : List ℕ) : Type 0 where
  pub answer : refusal ≡ measures_refusal s
  pub numbers : after ≡ measures_over s before
  pub secured : refusal ≡ 0 → (i : ℕ) → i < agents_of s → Secured (as_marked s) i (get_or after i 0)

-- A list that respects the measures. "Several lists can qualify: which one is left free, and the two properties must hold of it.": it is free
-- but for what stands here. "Evenness isn't promised for these lists."
pub record Respecting (s lent lent' : List ℕ) : Type 0 where
  -- m owners from 1 to n, at the start of the lent list,
  pub allocation : is_allocation (as_marked s) (take (chores_of s) lent') ≡ true
  -- "nobody's reels cost more than that person's measure,"
  pub within : within_measures (as_marked s) (owner_of (take (chores_of s) lent')) ≡ true
  -- "and the list isn't wasteful": no list of m owners from 1 to n dominates it
  pub undominated : (y : List ℕ) → is_allocation (as_marked s) y ≡ true → dominates (as_marked s) (owner_of y) (owner_of (take (chores_of s) lent')) ≡ false
  pub kept : drop (chores_of s) lent' ≡ drop (chores_of s) lent

-- A list that respects the measures: `measured_list(sheet, owners)`. "An accepted sheet with a long enough result list always gets one".
pub record MeasuredList (s lent lent' : List ℕ) (r : ℕ) : Type 0 where
  pub answer : r ≡ measured_list_refusal s (length lent)
  pub listed : r ≡ 0 → Respecting s lent lent'
  pub kept : (r ≡ 0 → ⊥) → lent' ≡ lent

-- The part of the book that a lookup hands back: "its bytes are handed back as that stretch of the book", and no bytes where it is refused,
-- since "the number is all that is returned".
unfoldable pub lookup : List ℕ → ℕ → List ℕ
lookup book number = cond (eqb (lookup_refusal book number) 0) (sheet_of book (number - 1)) []

-- The lookup of a sheet by its number: `find_sheet(book, number)`. A sheet of no bytes is told from a refused lookup by the refusal number.
pub record SheetFound (book : List ℕ) (number refusal : ℕ) (sheet : List ℕ) : Type 0 where
  pub answer : refusal ≡ lookup_refusal book number
  pub part : sheet ≡ lookup book number

-- the entry of the results that belongs to sheet j, counted from 0; a refused book has none
unfoldable pub entry_at : Result BookResult Refusal → ℕ → Reply
entry_at (Ok book) j = reply_at book.sheets j
entry_at (Err k) j = absent

-- The share-out of a book that is not refused.
pub record BookSharedOut (book owners prices scratch owners' prices' scratch' : List ℕ) (r : BookResult) : Type 0 where
  -- each accepted sheet's share-out meets demand 3
  pub finals : ℕ → State
  pub demand3 : (j : ℕ) → j < sheet_count book → takes_sheet book j ≡ true → Demand3 (sheet_of book j) (finals j)
  -- and takes few moves, so that all of them together do
  pub few : (j : ℕ) → j < sheet_count book → takes_sheet book j ≡ true → FewMoves (sheet_of book j) (finals j)
  pub few_in_all : r.tally.moves ≤ most_in_book book
  pub count : r.count ≡ sheet_count book
  pub answers : (j : ℕ) → reply_at r.sheets j ≡ sheet_answer book finals j
  pub moves : r.tally.moves ≡ tally_of book finals (λ x. x.moves)
  pub cuts : r.tally.cuts ≡ tally_of book finals (λ x. x.cuts)
  pub owners_at_exit : owners' ≡ long_list book finals (λ x. x.owners) owners
  pub prices_at_exit : prices' ≡ long_list book finals (λ x. x.prices) prices
  pub zeros : scratch' ≡ replicate (length scratch) 0

-- A refused book. "The number is all that is returned"
pub record BookNotShared (k : ℕ) (owners prices scratch owners' prices' scratch' : List ℕ) (r : Result BookResult Refusal) : Type 0 where
  pub refusal : number_of r ≡ k
  pub answers : (j : ℕ) → entry_at r j ≡ absent
  pub owners_kept : owners' ≡ owners
  pub prices_kept : prices' ≡ prices
  pub scratch_kept : scratch' ≡ scratch

-- The whole book. `allocate_book` is lent its prices as bytes, and promises this of the numbers that they hold: `BookInBytes` of `cmodel`.
pub record BookAllocated (book owners prices scratch owners' prices' scratch' : List ℕ) (r : Result BookResult Refusal) : Type 0 where
  pub not_refused :
      book_refusal book (length owners) (length prices) (length scratch) ≡ 0
      → (out : BookResult) × (r ≡ Ok out) × BookSharedOut book owners prices scratch owners' prices' scratch' out
  pub turned_down :
      (book_refusal book (length owners) (length prices) (length scratch) ≡ 0 → ⊥)
      → BookNotShared (book_refusal book (length owners) (length prices) (length scratch)) owners prices scratch owners' prices' scratch' r
