-- The lines read off a record's bytes are those of its moves.
-- Assumes nothing.
use Prim.Native.Nat.{ℕ, ◌+◌, ◌*◌, ◌/◌, ◌%◌, ◌^◌, ◌≤◌, ◌<◌}
use mathlib.Core.List.{List, [], ◌∷◌, ◌++◌, append_assoc, append-nil}
use mathlib.Core.Path.{◌≡◌, refl, ap, ap₂, ◌∙◌}
use native.Mathlib.Omega.{arith}
use native.Mathlib.Numerals.{add-one}
use lib.ListN.{length, get_or, take}
use lib.Seq.{take-suc, take_all}
use Rattle.std.specs.Fmt as std
use Rattle.std.specs.List.{flat_map}
use Rattle.std.specs.Simd.{first_chunks}
use Rattle.std.proofs.lemmas.Grind.{flat_map-append}
use Rattle.finite.specs.Lists.{word_at}
use Rattle.model.specs.Record.{Move, move_size, move_bytes, record_of}
use Rattle.records.proofs.Bytes.{record_length}
use Rattle.text.specs.Text.{ascii, field, newline}
use Rattle.text.specs.Put.{Put}
use Rattle.text.specs.Moves.{numbers_line, move_line, move_lines, move_most, line_at, PutMoves}
use Rattle.text.proofs.Decimal.{decimal_shown}
use Rattle.text.proofs.Putting.{put_nothing, put_then, put_more}

five_fields : (a b d e f : List ℕ) (c g r o s : ℕ) → c < 2 ^ 64 → g < 2 ^ 64 → r < 2 ^ 64 → o < 2 ^ 64 → s < 2 ^ 64 → field a c ++ field b g ++ field d r ++ field e o ++ field f s ++ newline ≡ a ++ (std.decimal c ++ (b ++ (std.decimal g ++ (d ++ (std.decimal r ++ (e ++ (std.decimal o ++ (f ++ (std.decimal s ++ newline)))))))))
unfolding field
five_fields a b d e f c g r o s i j k l m = rw (decimal_shown c i, decimal_shown g j, decimal_shown r k, decimal_shown o l, decimal_shown s m) (simp append_assoc)

-- the numbers in six bytes
pub line_numbers : (six : List ℕ) (chore : ℕ) → chore ≡ get_or six 0 0 * 256 + get_or six 1 0 → line_at six 0 ≡ numbers_line chore (get_or six 2 0) (get_or six 3 0) (get_or six 4 0) (get_or six 5 0)
unfolding line_at word_at
line_numbers six chore e =
    let is : 256 * get_or six 0 0 + get_or six 1 0 ≡ chore = omega arith in
    rw is

-- what the standard library writes of them
module _ (six : List ℕ) (fits : (i : ℕ) → get_or six i 0 < 256) where
  pub line_shown : (chore : ℕ) → chore ≡ get_or six 0 0 * 256 + get_or six 1 0 → line_at six 0 ≡ ascii "reel " ++ (std.decimal chore ++ (ascii " from " ++ (std.decimal (get_or six 2 0) ++ (ascii " to " ++ (std.decimal (get_or six 3 0) ++ (ascii " round " ++ (std.decimal (get_or six 4 0) ++ (ascii " step " ++ (std.decimal (get_or six 5 0) ++ newline)))))))))
  unfolding numbers_line
  line_shown chore e =
      let low : (i : ℕ) → get_or six i 0 < 2 ^ 64 = λ i. omega (arith, fits i) in
      rw (line_numbers six chore e) (five_fields (ascii "reel ") (ascii " from ") (ascii " to ") (ascii " round ") (ascii " step ") chore _ _ _ _ (omega (arith, fits 0, fits 1)) (low 2) (low 3) (low 4) (low 5))

-- the line of one move's six bytes
line_is : (t : Move) → line_at (move_bytes t) 0 ≡ move_line t
unfolding line_at word_at move_bytes move_line
line_is t =
    let whole : 256 * ((t.chore + 1) / 256) + (t.chore + 1) % 256 ≡ t.chore + 1 = omega arith in
    ap (λ n. numbers_line n (t.giver + 1) (t.receiver + 1) t.round t.step) whole

abbrev pub lines_of : List (List ℕ) → List ℕ
lines_of = flat_map (λ six. line_at six 0)

lines_are : (ts : List Move) → lines_of (first_chunks move_size (length ts) (record_of ts)) ≡ move_lines ts
unfolding record_of move_bytes move_lines
lines_are [] = refl
lines_are (t ∷ ts) = ap₂ ◌++◌ (line_is t) (lines_are ts)

-- one move more
pub lines_next : (xs : List (List ℕ)) (i : ℕ) → i < length xs → lines_of (take (i + 1) xs) ≡ lines_of (take i xs) ++ line_at (get_or xs i []) 0
lines_next xs i l = rw (add-one, take-suc xs i [] l, flat_map-append) (ap (λ x. lines_of (take i xs) ++ x) (append-nil _))

pub record_lines : (bytes : List ℕ) (ts : List Move) → bytes ≡ record_of ts → lines_of (first_chunks move_size (length bytes / move_size) bytes) ≡ move_lines ts
record_lines bytes ts e =
    let count : length bytes / move_size ≡ length ts = omega (arith, ap length e, record_length ts) in
    rw (count, e) (lines_are ts)

-- so many lines are in the buffer: the loop of `moves_text`
pub record Moved (sixes : List (List ℕ)) (out : List ℕ) (at : ℕ) (out' : List ℕ) (r i : ℕ) : Type 0 where
  pub sized : length out' ≡ length out
  pub put : Put (move_most * i) (lines_of (take i sixes)) out at out' r

module _ (sixes : List (List ℕ)) {out : List ℕ} {at : ℕ} where
  pub moves_begin : Moved sixes out at out at 0
  moves_begin = record { sized = refl; put = put_more put_nothing (omega arith) }

  module _ {out' : List ℕ} {end i : ℕ} (P : Moved sixes out at out' end i) where
    pub moves_next : {out'' : List ℕ} {r : ℕ} → i < length sixes → Put move_most (line_at (get_or sixes i []) 0) out' end out'' r → length out'' ≡ length out' → Moved sixes out at out'' r (i + 1)
    moves_next l Q same =
        record { sized = same ∙ P.sized; put = rw (lines_next sixes i l) (put_more (put_then P.put Q) (omega arith)) }

    pub moves_end : (bytes : List ℕ) → sixes ≡ first_chunks move_size (length bytes / move_size) bytes → i ≡ length bytes / move_size → length sixes ≤ i → PutMoves bytes out at out' end
    moves_end bytes is all l =
        record {
          few = omega (arith, P.put.few);
          put = λ moves e.
              let count : i ≡ length moves = omega (arith, ap length e, record_length moves) in
              let lines : lines_of (take i sixes) ≡ move_lines moves = rw (take_all i sixes l, is) (record_lines bytes moves e) in
              record { few = rw count at P.put.few; made = rw lines at P.put.made };
        }
