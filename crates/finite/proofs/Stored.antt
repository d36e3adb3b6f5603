-- A part of a list, lent and written over as a whole.
-- Assumes nothing.
use Prim.Native.Nat.{ℕ, ◌+◌, ◌≤◌}
use mathlib.Core.List.{List, ◌++◌, append_assoc}
use mathlib.Core.Path.{◌≡◌, sym, ◌∙◌}
use lib.ListN.{length, take, drop}
use lib.Seq.{sets, sets-eq, drop-drop}
use borrow.Rule.Slice.PartMut.{put_mid}

-- the part from i on, of k entries, holds ws
pub put_over : (xs ws : List ℕ) (i k : ℕ) → i + length ws ≤ length xs → k ≡ length ws → put_mid i k xs ws ≡ sets xs i ws
put_over xs ws i k l e =
    rw (e, drop-drop (length ws) i xs) (sym (sets-eq ws xs i l ∙ append_assoc (take i xs) ws (drop (i + length ws) xs)))
