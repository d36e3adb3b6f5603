-- The forms of the worked cases, and what it is for the definitions to meet one.
use Rattle.std.specs.Prelude.{ℕ, ◌-◌, ◌/◌, ◌%◌, Bool, true, not, ◌&&◌, List, [], ◌∷◌, ◌++◌, ◌≡◌, eqb, length, get_or}
use Prim.Native.Char.{code}
use Prim.Native.String as S
use Prim.Native.String.{String}
use Rattle.finite.specs.Packed.{packed}
use Rattle.model.specs.Instance.{owner_of}
use Rattle.model.specs.Sheet.{as_marked, as_read}
use Rattle.model.specs.Fairness.{total_cost, ef1, dominates, is_allocation, dominated}
use Rattle.model.specs.MaximinShare.{dealt, measures_of, within_measures}
use Rattle.model.specs.Algorithm.{State, lacking, step, opening, Ends}
use Rattle.model.specs.Record.{moves_in, record_of}
use Rattle.model.specs.Strands.{joined_sheet, strand_marks}
use Rattle.model.specs.Refusals.{sheet_refusal, allocate_refusal, recorded_refusal, strands_refusal, join_refusal, show_refusal, measures_refusal, measured_list_refusal, book_refusal}
use Rattle.model.specs.Replies.{Reply}
use Rattle.model.specs.Verdicts.{list_check, price_check}

-- marks as document 01 writes them, `e` and `d`
unfoldable pub marks : String → List ℕ
marks S.[] = []
marks (S.◌∷◌ c t) = code c ∷ marks t

-- `d`
abbrev pub difficult_letter : ℕ
difficult_letter = 0x64

-- a row of them "in the packed form"
unfoldable pub row : String → List ℕ
row text = packed (length (marks text)) (λ c. eqb (get_or (marks text) c 0) difficult_letter)

unfoldable pub all_rows : List String → List ℕ
all_rows [] = []
all_rows (text ∷ texts) = row text ++ all_rows texts

unfoldable pub first_count : List String → ℕ
first_count [] = 0
first_count (text ∷ texts) = length (marks text)

-- the header of a sheet
unfoldable pub header : ℕ → ℕ → ℕ → ℕ → List ℕ
header n m a b = n ∷ m / 256 ∷ m % 256 ∷ a / 256 ∷ a % 256 ∷ b / 256 ∷ b % 256 ∷ []

-- the bytes of a sheet: its weights, and a row of marks for each agent
unfoldable pub sheet : ℕ → ℕ → List String → List ℕ
sheet a b texts = header (length texts) (first_count texts) a b ++ all_rows texts

pub data Case : Type 0 where
  -- the share-out of a sheet: its owners, prices, moves and cuts
  shared_out : List ℕ → List ℕ → List ℕ → ℕ → ℕ → Case
  -- the opening list of a sheet, and what it costs in total, as the share-out reads the marks
  opens : List ℕ → List ℕ → ℕ → Case
  -- in this state of a share-out of a sheet, whether or not a run comes to it, the step that is due lacks its chore
  lacks : List ℕ → State → Case
  -- a sheet's refusal number, 0 where it is taken
  judged : List ℕ → ℕ → Case
  -- the bytes of a sheet or of a move
  spelled : List ℕ → List ℕ → Case
  -- the refusal number of a sheet's share-out, with lent owners, prices and scratch of so many entries
  lent : List ℕ → ℕ → ℕ → ℕ → ℕ → Case
  -- the refusal number of a book, with lent owners, prices and scratch of so many entries
  lent_book : List ℕ → ℕ → ℕ → ℕ → ℕ → Case
  -- the record of a sheet's share-out
  recorded : List ℕ → List ℕ → Case
  -- the refusal number of a share-out with a record, with lent owners, prices and scratch of so many entries, moves and bytes
  lent_record : List ℕ → ℕ → ℕ → ℕ → ℕ → ℕ → ℕ → Case
  -- two sheets, and the one that they make
  joins : List ℕ → List ℕ → List ℕ → Case
  -- the refusal number of joining two sheets, with a lent list of so many bytes
  lent_join : List ℕ → List ℕ → ℕ → ℕ → Case
  -- of two sheets, the marks that are shown of a person for a chore
  marked : List ℕ → List ℕ → ℕ → ℕ → List ℕ → Case
  -- the refusal number of showing them
  asked : List ℕ → List ℕ → ℕ → ℕ → ℕ → Case
  -- the list check's answer on a sheet and a list, with this slack and so many entries lent
  listed : List ℕ → List ℕ → ℕ → ℕ → Reply → Case
  -- on a sheet, whether a list is even up to one chore
  even_to_one : List ℕ → List ℕ → Bool → Case
  -- on a sheet, a list, and the one list that dominates it
  shown : List ℕ → List ℕ → List ℕ → Case
  -- everyone's own measure on a sheet
  measured : List ℕ → List ℕ → Case
  -- the refusal number of asking for them
  unmeasured : List ℕ → ℕ → Case
  -- on a sheet, the bundles that an agent's chores are dealt into, the agent counted from 1
  dealt_into : List ℕ → ℕ → List ℕ → Case
  -- on a sheet, whether a list is within the measures
  keeps_within : List ℕ → List ℕ → Bool → Case
  -- on a sheet, the one list that is within the measures and not wasteful
  respects : List ℕ → List ℕ → Case
  -- the refusal number of asking for such a list, with a lent list of so many entries
  lent_measured : List ℕ → ℕ → ℕ → Case
  -- the price check's answer on a sheet, a list and prices
  priced : List ℕ → List ℕ → List ℕ → Reply → Case

-- The sheet is taken, and Algorithm 1 ends on it with these owners, prices, moves and cuts.
pub record Shares (s owners prices : List ℕ) (moves cuts : ℕ) : Type 0 where
  pub taken : sheet_refusal s ≡ 0
  pub final : State
  pub ends : Ends (as_read s) final
  pub owners_are : final.owners ≡ owners
  pub prices_are : final.prices ≡ prices
  pub moves_are : final.moves ≡ moves
  pub cuts_are : final.cuts ≡ cuts

-- The sheet is taken, and these bytes are the moves of its run.
pub record Records (s bytes : List ℕ) : Type 0 where
  pub taken : sheet_refusal s ≡ 0
  pub final : State
  pub ends : Ends (as_read s) final
  pub bytes_are : record_of (moves_in (as_read s) ends.steps) ≡ bytes

-- `other` dominates the owners, and no list but this one does: it is what every right check shows.
pub record Shows (s owners other : List ℕ) : Type 0 where
  pub allocation : is_allocation (as_marked s) other ≡ true
  pub dominating : dominates (as_marked s) (owner_of other) (owner_of owners) ≡ true
  pub only : (y : List ℕ) → is_allocation (as_marked s) y ≡ true → dominates (as_marked s) (owner_of y) (owner_of owners) ≡ true → y ≡ other

-- a list is within the measures, and no list dominates it
unfoldable pub respecting : List ℕ → List ℕ → Bool
respecting s owners = within_measures (as_marked s) (owner_of owners) && not (dominated (as_marked s) (owner_of owners))

-- So are the owners, and no list but this one: it is what every right program gives.
pub record Respects (s owners : List ℕ) : Type 0 where
  pub allocation : is_allocation (as_marked s) owners ≡ true
  pub respects_them : respecting s owners ≡ true
  pub only : (y : List ℕ) → is_allocation (as_marked s) y ≡ true → respecting s y ≡ true → y ≡ owners

unfoldable pub Meets : Case → Type 0
Meets (shared_out s owners prices moves cuts) = Shares s owners prices moves cuts
Meets (opens s owners total) = ((opening (as_read s)).owners ≡ owners) × (total_cost (as_read s) (owner_of owners) ≡ total)
Meets (lacks s x) = step (as_read s) x ≡ lacking x
Meets (judged s k) = sheet_refusal s ≡ k
Meets (spelled s bytes) = s ≡ bytes
Meets (lent s owners prices scratch k) = allocate_refusal s owners prices scratch ≡ k
Meets (lent_book book owners prices scratch k) = book_refusal book owners prices scratch ≡ k
Meets (recorded s bytes) = Records s bytes
Meets (lent_record s owners prices scratch moves bytes k) = recorded_refusal s owners prices scratch moves bytes ≡ k
Meets (joins first second whole) = (strands_refusal first second ≡ 0) × (joined_sheet first second ≡ whole)
Meets (lent_join first second bytes k) = join_refusal first second bytes ≡ k
Meets (marked first second person chore row) = (show_refusal first second person chore ≡ 0) × (strand_marks first second person chore ≡ row)
Meets (asked first second person chore k) = show_refusal first second person chore ≡ k
Meets (listed s owners slack entries answer) = list_check s owners slack entries ≡ answer
Meets (even_to_one s owners answer) = ef1 (as_marked s) (owner_of owners) ≡ answer
Meets (shown s owners other) = Shows s owners other
Meets (measured s numbers) = (measures_refusal s ≡ 0) × (measures_of s ≡ numbers)
Meets (unmeasured s k) = measures_refusal s ≡ k
Meets (dealt_into s person bundles) = dealt (as_marked s) (person - 1) ≡ bundles
Meets (keeps_within s owners answer) = within_measures (as_marked s) (owner_of owners) ≡ answer
Meets (respects s owners) = Respects s owners
Meets (lent_measured s entries k) = measured_list_refusal s entries ≡ k
Meets (priced s owners prices answer) = price_check s owners prices ≡ answer

unfoldable pub MeetsAll : List Case → Type 0
MeetsAll [] = Unit {0}
MeetsAll (c ∷ cs) = Meets c × MeetsAll cs
