-- Document 01, "The sheet", with the bytes of document 02, request 5: a header, rows of marks, and the two readings of them.
use Rattle.std.specs.Prelude.{ℕ, ◌+◌, ◌*◌, Bool, not, ◌||◌, List, get_or, take, drop}
use Rattle.finite.specs.Sums.{count_to}
use Rattle.finite.specs.Search.{all_below}
use Rattle.finite.specs.Lists.{word_at}
use Rattle.finite.specs.Packed.{bit_at, bytes_for}
use Rattle.model.specs.Instance.{Instance}

-- "Byte 0 is the number of people n"
unfoldable pub agents_of : List ℕ → ℕ
agents_of s = get_or s 0 0

-- "The reel count becomes two bytes, high byte first"
unfoldable pub chores_of : List ℕ → ℕ
chores_of s = word_at s 1

-- "the easy weight a .. high byte first"; "so the header has 7 bytes"
unfoldable pub easy_weight : List ℕ → ℕ
easy_weight s = word_at s 3

-- "the difficult weight b, high byte first"
unfoldable pub difficult_weight : List ℕ → ℕ
difficult_weight s = word_at s 5

-- the bytes of these four numbers, before the marks: "the header has 7 bytes"
abbrev pub header_size : ℕ
header_size = 7

-- the bytes of a row: "m divided by 8, rounded up"
abbrev pub row_size : List ℕ → ℕ
row_size s = bytes_for (chores_of s)

-- "Then n rows .., person by person", and "each row starts on a fresh byte": where agent i's row starts, and its bytes
abbrev pub row_start : List ℕ → ℕ → ℕ
row_start s i = header_size + i * row_size s

unfoldable pub row_of : List ℕ → ℕ → List ℕ
row_of s i = take (row_size s) (drop (row_start s i) s)

-- "Marks shrink to one bit, 1 for difficult, high bit first": agent i marked chore c difficult. Every reading of a mark goes by this one.
unfoldable pub is_difficult : List ℕ → ℕ → ℕ → Bool
is_difficult s i c = bit_at (row_of s i) c

-- a mark has one bit, so what is not difficult is easy
unfoldable pub marks_easy : List ℕ → ℕ → ℕ → Bool
marks_easy s i c = not (is_difficult s i c)

-- "The length is 7 + n × (m divided by 8, rounded up)."
unfoldable pub sheet_length : List ℕ → ℕ
sheet_length s = header_size + agents_of s * row_size s

-- "The number of difficult marks in a row"
unfoldable pub difficult_marks : List ℕ → ℕ → ℕ
difficult_marks s i = count_to (chores_of s) (is_difficult s i)

-- agent i's row holds difficult marks only
unfoldable pub all_difficult : List ℕ → ℕ → Bool
all_difficult s i = all_below (chores_of s) (is_difficult s i)

-- costs as marked: what evenness, waste and both checks go by
unfoldable pub as_marked : List ℕ → Instance
as_marked s =
    record { n = agents_of s; m = chores_of s; a = easy_weight s; b = difficult_weight s; easy = marks_easy s }

-- "A row of difficult marks only is read as all easy in the share-out."
unfoldable pub as_read : List ℕ → Instance
as_read s =
    record {
      n = agents_of s;
      m = chores_of s;
      a = easy_weight s;
      b = difficult_weight s;
      easy = λ i c. marks_easy s i c || all_difficult s i;
    }
