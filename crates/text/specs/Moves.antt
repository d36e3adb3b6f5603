-- Document 02, request 1: "for each move, in the order made, the reel, the giver, the receiver, the round and the step", as lines of text; and
-- those lines read off the bytes of a record.
use Rattle.std.specs.Prelude.{ℕ, ◌+◌, ◌*◌, ◌/◌, ◌≤◌, List, [], ◌∷◌, ◌++◌, ◌≡◌, length, get_or}
use Rattle.finite.specs.Lists.{word_at}
use Rattle.model.specs.Record.{Move, move_size, record_of}
use Rattle.text.specs.Text.{ascii, field, newline}
use Rattle.text.specs.Put.{Put}

-- one move, as `reel 5 from 1 to 2 round 1 step 2`: all numbers count from 1
unfoldable pub numbers_line : ℕ → ℕ → ℕ → ℕ → ℕ → List ℕ
numbers_line chore giver receiver round step =
    field (ascii "reel ") chore ++ field (ascii " from ") giver ++ field (ascii " to ") receiver ++ field (ascii " round ") round ++ field (ascii " step ") step ++ newline

unfoldable pub move_line : Move → List ℕ
move_line t = numbers_line (t.chore + 1) (t.giver + 1) (t.receiver + 1) t.round t.step

unfoldable pub move_lines : List Move → List ℕ
move_lines [] = []
move_lines (t ∷ ts) = move_line t ++ move_lines ts

-- the line of move k, counted from 0, by its six bytes
unfoldable pub line_at : List ℕ → ℕ → List ℕ
line_at bytes k =
    numbers_line (word_at bytes (move_size * k)) (get_or bytes (move_size * k + 2) 0) (get_or bytes (move_size * k + 3) 0) (get_or bytes (move_size * k + 4) 0) (get_or bytes (move_size * k + 5) 0)

-- a line takes at most 29 bytes for its words, 5 for the chore's two bytes and 3 for each of the others
abbrev pub move_most : ℕ
move_most = 46

-- and asks for more, since each number asks for room for as many digits as 64 bits may have
abbrev pub move_room : ℕ
move_room = 130

-- whatever moves the bytes are a record of, their lines are put
pub record PutMoves (bytes : List ℕ) (out : List ℕ) (at : ℕ) (out' : List ℕ) (r : ℕ) : Type 0 where
  pub few : r ≤ at + move_most * (length bytes / move_size)
  pub put : (moves : List Move) → bytes ≡ record_of moves → Put (move_most * length moves) (move_lines moves) out at out' r
