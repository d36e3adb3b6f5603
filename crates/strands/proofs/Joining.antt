-- The joined sheet as code writes it: a header, and rows one after the other.
-- Assumes nothing.
use Prim.Native.Nat.{ℕ, ◌+◌, ◌*◌, ◌/◌, ◌%◌, ◌≤◌, ◌<◌}
use mathlib.Core.List.{List, ◌∷◌, ◌++◌}
use mathlib.Core.Path.{◌≡◌, refl, sym, ap, ap₂, ◌∙◌}
use native.Mathlib.Nat.{mul-le-mul_right}
use native.Mathlib.Numerals.{add-one}
use native.Mathlib.Omega.{arith}
use lib.ListN.{length, take, drop}
use lib.Seq.{sets, sets-eq, length-sets}
use borrow.Author.Tests.{eq-eqb, ne_eqb}
use Rattle.finite.specs.Packed.{bytes_for}
use Rattle.finite.proofs.Lists.{sets_append}
use Rattle.std.specs.Prelude.{Result, Ok}
use Rattle.model.specs.declared.Refusal.{Refusal}
use Rattle.model.specs.Limits.{max_chores}
use Rattle.model.specs.Sheet.{header_size, agents_of, chores_of, row_of}
use Rattle.model.specs.Strands.{joined_chores, joined_row, joined_rows, joined_header, joined_sheet}
use Rattle.model.specs.Refusals.{join_refusal}
use Rattle.model.specs.Verdicts.{unless_refused}
use Rattle.model.specs.Promises.{joined_over, SheetsJoined}
use Rattle.model.proofs.Refusing.{Left}
use Rattle.sheet.specs.Valid.{Joinable}
use Rattle.sheet.specs.Readers.{RowInSheet}
use Rattle.sheet.proofs.Strands.{first_row, second_row, header_long, rows_long, joined_long, joined_taken}
use Rattle.strands.specs.Parts.{Room, both_rows, RowsLent}
use Rattle.strands.proofs.Refusals.{join_joinable}
use Rattle.strands.proofs.Rows.{row_after, row_size_lem, joined_packs}

-- the rows of the first i agents are written
pub record Writing (first second joined joined' : List ℕ) (i : ℕ) : Type 0 where
  pub within : i ≤ agents_of first
  pub made : joined' ≡ sets joined header_size (joined_rows first second i)

pub write_zero : (first second joined : List ℕ) → Writing first second joined joined 0
unfolding joined_rows
write_zero first second joined = record { within = omega arith; made = refl }

pub write_sized : {first second joined joined' : List ℕ} {i : ℕ} → Writing first second joined joined' i → length joined' ≡ length joined
write_sized {first} {second} {joined} {i = i} W = ap length W.made ∙ length-sets joined header_size (joined_rows first second i)

-- one turn more, for agent i, with the numbers of chores as read
pub record Turn (first second joined joined' : List ℕ) (i m₁ m₂ : ℕ) : Type 0 where
  pub lent : Room first second joined
  pub written : Writing first second joined joined' i
  pub agent : i < agents_of first
  pub chores₁ : m₁ ≡ chores_of first
  pub chores₂ : m₂ ≡ chores_of second

module _ {first second joined joined' : List ℕ} {i m₁ m₂ : ℕ} (T : Turn first second joined joined' i m₁ m₂) where
  J : Joinable first second
  J = T.lent.joinable

  pub turn_first : RowInSheet first m₁ i
  turn_first = first_row J T.agent T.chores₁

  pub turn_second : RowInSheet second m₂ i
  turn_second = second_row J T.agent T.chores₂

  -- the numbers are small
  pub turn_few : (i < 256) × (m₁ + m₂ ≤ max_chores)
  unfolding joined_chores
  turn_few = (omega (arith, T.agent, J.valid_first.agents_fit), omega (arith, T.chores₁, T.chores₂, J.fits))

  -- with both rows as read, and where the agent's row starts
  module _ {row₁ row₂ : List ℕ} {at : ℕ} (e₁ : row₁ ≡ row_of first i) (e₂ : row₂ ≡ row_of second i) (here : at ≡ header_size + i * bytes_for (m₁ + m₂)) where
    pub turn_lent : RowsLent row₁ m₁ row₂ m₂ joined' at
    unfolding joined_chores
    turn_lent =
        let size = bytes_for (m₁ + m₂) in
        let whole : header_size + agents_of first * size ≤ length joined = rw (T.chores₁, T.chores₂, ← joined_long J) T.lent.room in
        let more = mul-le-mul_right size T.agent in
        record {
          long₁ = rw e₁ (row_size_lem turn_first);
          long₂ = rw e₂ (row_size_lem turn_second);
          after = rw e₂ (row_after turn_second);
          few = turn_few.1;
          room = omega (arith, here, write_sized T.written);
        }

    pub write_next : {joined'' : List ℕ} → joined'' ≡ sets joined' at (both_rows row₁ m₁ row₂ m₂) → Writing first second joined joined'' (i + 1)
    unfolding joined_rows joined_chores
    write_next made =
        let rows = joined_rows first second i in
        let row : both_rows row₁ m₁ row₂ m₂ ≡ joined_row first second i = rw (e₁, e₂, T.chores₁, T.chores₂) (sym (joined_packs first second i)) in
        let end : at ≡ header_size + length rows = here ∙ rw (T.chores₁, T.chores₂) (ap (λ k. header_size + k) (sym (rows_long J i))) in
        record {
          within = omega (arith, T.agent);
          made =
              made
              ∙ ap₂ (sets joined') end row
              ∙ ap (λ list. sets list (header_size + length rows) (joined_row first second i)) T.written.made
              ∙ sets_append rows (joined_row first second i) joined header_size
              ∙ ap (λ k. sets joined header_size (joined_rows first second k)) (sym (add-one i));
        }

-- the header, with the count as read, and then the rows make the sheet
module _ {first second lent : List ℕ} (R : Room first second lent) where
  pub header_room : header_size ≤ length lent
  header_room = omega (arith, R.room, joined_long R.joinable)

  module _ {m : ℕ} {lent₁ : List ℕ} (read : m ≡ joined_chores first second) (headed : lent₁ ≡ sets lent 0 (agents_of first ∷ m / 256 ∷ m % 256 ∷ take 4 (drop 3 first))) where
    pub still_room : Room first second lent₁
    still_room =
        let size = ap length headed ∙ length-sets lent 0 (agents_of first ∷ m / 256 ∷ m % 256 ∷ take 4 (drop 3 first)) in
        record { joinable = R.joinable; room = rw size R.room }

    pub sheet_made : {lent₂ : List ℕ} → lent₂ ≡ sets lent₁ header_size (joined_rows first second (agents_of first)) → lent₂ ≡ joined_sheet first second ++ drop (length (joined_sheet first second)) lent
    unfolding joined_sheet joined_header
    sheet_made rowed =
        let head = joined_header first second in
        let rows = joined_rows first second (agents_of first) in
        let begun : lent₁ ≡ sets lent 0 head = headed ∙ ap (λ k. sets lent 0 (agents_of first ∷ k / 256 ∷ k % 256 ∷ take 4 (drop 3 first))) read in
        let after : header_size ≡ 0 + length head = omega (arith, header_long R.joinable) in
        let all : 0 + length (head ++ rows) ≡ length (head ++ rows) = omega arith in
        rowed
        ∙ ap (λ list. sets list header_size rows) begun
        ∙ ap (λ k. sets (sets lent 0 head) k rows) after
        ∙ sets_append head rows lent 0
        ∙ sets-eq (head ++ rows) lent 0 (omega (arith, R.room))
        ∙ ap (λ k. (head ++ rows) ++ drop k lent) all

-- what is promised, refused or not

pub not-joined : (first second lent : List ℕ) {r : Result ℕ Refusal} → Left r (join_refusal first second (length lent)) → SheetsJoined first second lent lent r
unfolding unless_refused joined_over
not-joined first second lent L =
    let p = L.positive in
    let some : join_refusal first second (length lent) ≡ 0 → ⊥ = λ z. omega (arith, z, p) in
    record {
      answer = rw (ne_eqb _ 0 some, L.is, L.number);
      at_exit = sym (rw (ne_eqb _ 0 some));
      taken = λ z. absurd (some z);
    }

pub all_joined : (first second lent : List ℕ) {lent' : List ℕ} {size : ℕ} → join_refusal first second (length lent) ≡ 0 → size ≡ length (joined_sheet first second) → lent' ≡ joined_sheet first second ++ drop (length (joined_sheet first second)) lent → SheetsJoined first second lent lent' (Ok size)
unfolding unless_refused joined_over
all_joined first second lent z e made =
    record {
      answer = rw (eq-eqb _ 0 z, e);
      at_exit = made ∙ sym (rw (eq-eqb _ 0 z));
      taken = λ _. joined_taken (join_joinable first second (length lent) z);
    }
