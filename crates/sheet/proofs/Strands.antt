-- Two strands that can be joined, and the sheet that they make: its header is the first's but for the count, each row is the first's and then
-- the second's, and it breaks no rule.
-- Assumes nothing.
use Prim.Native.Nat.{ℕ, zero, suc, ◌+◌, ◌*◌, ◌-◌, ◌≤◌, ◌<◌}
use mathlib.Core.Bool.{false, ◌&&◌}
use mathlib.Core.List.{List, [], ◌∷◌, ◌++◌, append_assoc, append-nil}
use mathlib.Core.Path.{◌≡◌, refl, sym, ap, ap₂, ◌∙◌}
use native.Mathlib.Nat.{add-sub_cancel_left}
use native.Mathlib.Omega.{arith}
use lib.Dec.{eqb, ltb}
use lib.ListN.{length, get_or, take, drop, length-append}
use lib.Seq.{take_at, drop_at, drop-cons}
use borrow.Author.Tests.{eqb-true, ltb-false, lt-ltb, le-ltb, not-false}
use Rattle.finite.specs.Lists.{word_at}
use Rattle.finite.proofs.Tests.{and_elim}
use Rattle.finite.specs.Packed.{bit_at, bytes_for}
use Rattle.finite.proofs.Below.{none_below, by_top}
use Rattle.finite.proofs.Packed.{packed_long, packed-bit}
use Rattle.model.specs.Limits.{max_chores}
use Rattle.model.specs.Sheet.{header_size, agents_of, chores_of, easy_weight, difficult_weight, row_size, row_start, row_of, is_difficult, sheet_length}
use Rattle.model.specs.Strands.{agree, joined_chores, joined_mark, joined_row, joined_rows, joined_header, joined_sheet}
use Rattle.model.specs.Refusals.{sheet_refusal, strands_refusal}
use Rattle.sheet.specs.Valid.{Valid, Joinable}
use Rattle.sheet.specs.Readers.{RowInSheet}
use Rattle.sheet.proofs.OrElse.{or_else_zero, when_none, peel}
use Rattle.sheet.proofs.Refusal.{valid, accepted}

-- what refusal 0 of two strands means

pub joinable : (first second : List ℕ) → strands_refusal first second ≡ 0 → Joinable first second
unfolding strands_refusal agree
joinable first second e =
    let one = or_else_zero (sheet_refusal first) _ e in
    let two = or_else_zero (sheet_refusal second) _ one.1 in
    let same = peel _ 11 _ two.1 in
    let agents = and_elim (eqb (agents_of first) (agents_of second)) _ (not-false _ same.0) in
    let weights = and_elim (eqb (easy_weight first) (easy_weight second)) _ agents.1 in
    record {
      valid_first = valid first one.0;
      valid_second = valid second two.0;
      agents = eqb-true _ _ agents.0;
      easy = eqb-true _ _ weights.0;
      difficult = eqb-true _ _ weights.1;
      fits = ltb-false max_chores (joined_chores first second) (when_none _ 1 same.1);
    }

-- both weights of a sheet, byte by byte
pub weight-bytes : (s : List ℕ) → header_size ≤ length s → take 4 (drop 3 s) ≡ get_or s 3 0 ∷ get_or s 4 0 ∷ get_or s 5 0 ∷ get_or s 6 0 ∷ []
weight-bytes s l =
    rw (drop-cons s 3 0 (omega arith), drop-cons s 4 0 (omega arith), drop-cons s 5 0 (omega arith), drop-cons s 6 0 (omega arith))

-- where a row stands among others
record Among (first second : List ℕ) (k i : ℕ) : Type 0 where
  rest : List ℕ
  whole : joined_rows first second k ≡ joined_rows first second i ++ (joined_row first second i ++ rest)

among : (first second : List ℕ) (k i : ℕ) → i < k → Among first second k i
unfolding joined_rows
among first second zero i l = none_below l
among first second (suc k) i l =
    by_top l
    (λ e. record { rest = []; whole = rw (e, append-nil) })
    (λ l'.
    let a = among first second k i l' in
    record {
      rest = a.rest ++ joined_row first second k;
      whole = rw (a.whole, append_assoc, append_assoc);
    })

module _ {first second : List ℕ} (J : Joinable first second) where
  -- an agent has a row in both sheets
  pub first_row : {i m : ℕ} → i < agents_of first → m ≡ chores_of first → RowInSheet first m i
  first_row l e = record { valid = J.valid_first; chores = e; agent = l }

  pub second_row : {i m : ℕ} → i < agents_of first → m ≡ chores_of second → RowInSheet second m i
  second_row l e = record { valid = J.valid_second; chores = e; agent = omega (arith, J.agents) }

  -- the lengths of its parts, and its own

  weights : take 4 (drop 3 first) ≡ get_or first 3 0 ∷ get_or first 4 0 ∷ get_or first 5 0 ∷ get_or first 6 0 ∷ []
  weights = weight-bytes first J.valid_first.header

  pub header_long : length (joined_header first second) ≡ header_size
  unfolding joined_header
  header_long = rw weights refl

  joined_row_long : (i : ℕ) → length (joined_row first second i) ≡ bytes_for (joined_chores first second)
  unfolding joined_row
  joined_row_long i = packed_long (joined_chores first second) (joined_mark first second i)

  pub rows_long : (k : ℕ) → length (joined_rows first second k) ≡ k * bytes_for (joined_chores first second)
  unfolding joined_rows
  rows_long zero = omega arith
  rows_long (suc k) =
      length-append (joined_rows first second k) (joined_row first second k) ∙ omega (arith, rows_long k, joined_row_long k)

  pub joined_long : length (joined_sheet first second) ≡ header_size + agents_of first * bytes_for (joined_chores first second)
  unfolding joined_sheet
  joined_long =
      length-append (joined_header first second) (joined_rows first second (agents_of first))
      ∙ ap₂ ◌+◌ header_long (rows_long (agents_of first))

  -- its header

  pub joined-agents : agents_of (joined_sheet first second) ≡ agents_of first
  unfolding agents_of joined_sheet joined_header
  joined-agents = refl

  pub joined-chores : chores_of (joined_sheet first second) ≡ joined_chores first second
  unfolding chores_of word_at joined_sheet joined_header
  joined-chores = omega arith

  pub joined_easy : easy_weight (joined_sheet first second) ≡ easy_weight first
  unfolding easy_weight word_at joined_sheet joined_header
  joined_easy = rw weights refl

  pub joined_difficult : difficult_weight (joined_sheet first second) ≡ difficult_weight first
  unfolding difficult_weight word_at joined_sheet joined_header
  joined_difficult = rw weights refl

  -- its rows

  pub joined-row : (i : ℕ) → i < agents_of first → row_of (joined_sheet first second) i ≡ joined_row first second i
  unfolding row_of joined_sheet
  joined-row i l =
      let a = among first second (agents_of first) i l in
      let head = joined_header first second ++ joined_rows first second i in
      let row = joined_row first second i in
      let size : length row ≡ row_size (joined_sheet first second) = joined_row_long i ∙ ap bytes_for (sym joined-chores) in
      let before : length head ≡ row_start (joined_sheet first second) i =
      length-append (joined_header first second) (joined_rows first second i)
      ∙ ap₂ ◌+◌ header_long (rows_long i)
      ∙ ap (λ m. header_size + i * bytes_for m) (sym joined-chores) in
      let spelled : joined_sheet first second ≡ head ++ (row ++ a.rest) =
      ap (λ rows. joined_header first second ++ rows) a.whole
      ∙ sym (append_assoc (joined_header first second) (joined_rows first second i) (row ++ a.rest)) in
      ap (λ s. take (row_size (joined_sheet first second)) (drop (row_start (joined_sheet first second) i) s)) spelled
      ∙ ap (take (row_size (joined_sheet first second))) (drop_at head (row ++ a.rest) _ before)
      ∙ take_at row a.rest _ size

  -- its bits: the marks of both, and 0 after them
  joined-bit : (i c : ℕ) → i < agents_of first → c < 8 * bytes_for (joined_chores first second) → bit_at (row_of (joined_sheet first second) i) c ≡ (ltb c (joined_chores first second) && joined_mark first second i c)
  unfolding joined_row
  joined-bit i c l k = ap (λ row. bit_at row c) (joined-row i l) ∙ packed-bit (joined_chores first second) (joined_mark first second i) c k

  pub joined_mark_lem : (i c : ℕ) → i < agents_of first → c < joined_chores first second → is_difficult (joined_sheet first second) i c ≡ joined_mark first second i c
  unfolding is_difficult
  joined_mark_lem i c l k = joined-bit i c l (omega arith) ∙ ap (λ t. t && joined_mark first second i c) (lt-ltb c (joined_chores first second) k)

  -- its marks: the first's, and after them the second's

  pub mark_first : (i c : ℕ) → i < agents_of first → c < chores_of first → is_difficult (joined_sheet first second) i c ≡ is_difficult first i c
  unfolding joined_mark joined_chores
  mark_first i c l k = joined_mark_lem i c l (omega arith) ∙ rw (lt-ltb c (chores_of first) k)

  pub mark_second : (i c : ℕ) → i < agents_of first → c < chores_of second → is_difficult (joined_sheet first second) i (chores_of first + c) ≡ is_difficult second i c
  unfolding joined_mark joined_chores
  mark_second i c l k =
      joined_mark_lem i (chores_of first + c) l (omega arith)
      ∙ rw (le-ltb (chores_of first + c) (chores_of first) (omega arith), add-sub_cancel_left (chores_of first) c)

  -- it breaks no rule

  joined_padding : (i k : ℕ) → i < agents_of first → k < 8 * bytes_for (joined_chores first second) - joined_chores first second → bit_at (row_of (joined_sheet first second) i) (joined_chores first second + k) ≡ false
  joined_padding i k l h =
      let m = joined_chores first second in
      joined-bit i (m + k) l (omega arith) ∙ ap (λ t. t && joined_mark first second i (m + k)) (le-ltb (m + k) m (omega arith))

  pub joined_valid : Valid (joined_sheet first second)
  unfolding sheet_length
  joined_valid =
      let v = J.valid_first in
      record {
        header = omega (arith, joined_long);
        some_agent = omega (arith, joined-agents, v.some_agent);
        agents_fit = omega (arith, joined-agents, v.agents_fit);
        chores_fit = omega (arith, joined-chores, J.fits);
        easy_positive = omega (arith, joined_easy, v.easy_positive);
        easier = omega (arith, joined_easy, joined_difficult, v.easier);
        weight_fits = omega (arith, joined_difficult, v.weight_fits);
        long = joined_long ∙ rw (joined-agents, joined-chores);
        padding = λ i k l h. rw joined-chores (joined_padding i k (rw joined-agents at l) (rw joined-chores at h));
      }

  pub joined_taken : sheet_refusal (joined_sheet first second) ≡ 0
  joined_taken = accepted (joined_sheet first second) joined_valid
