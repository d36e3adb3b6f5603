-- A list of numbers that goes to a writer part by part.
-- Assumes nothing.
use Prim.Native.Nat.{ℕ}
use mathlib.Core.List.{List, [], ◌∷◌, ◌++◌, append_assoc}
use mathlib.Core.Path.{◌≡◌, refl, sym, ap, ◌∙◌}
use lib.ListN.{take}
use Rattle.std.specs.Prelude.{Option}
use Rattle.std.specs.Io.KnownBytes.{Appends}
use Rattle.std.proofs.KnownBytes.{Appends-nil, Appends-trans}
use Rattle.text.specs.Text.{field, ascii, spaced, newline}
use Rattle.text.specs.Lines.{list_line}
use Rattle.text.specs.Put.{Put}

spaced_both : (xs ys : List ℕ) → spaced (xs ++ ys) ≡ spaced xs ++ spaced ys
unfolding spaced
spaced_both [] ys = refl
spaced_both (x ∷ xs) ys = rw (spaced_both xs ys) (sym (append_assoc (field (ascii " ") x) (spaced xs) (spaced ys)))

-- what has gone, and what is left of the list
pub record Going (old : Option (List ℕ)) (xs : List ℕ) (new : Option (List ℕ)) (rest : List ℕ) : Type 0 where
  pub gone : List ℕ
  pub whole : xs ≡ gone ++ rest
  pub sent : Appends old new (spaced gone)

pub none_gone : (a : Option (List ℕ)) (xs : List ℕ) → Going a xs a xs
unfolding spaced
none_gone a xs = record { gone = []; whole = refl; sent = Appends-nil a }

pub part_gone : (a b c : Option (List ℕ)) {xs rest : List ℕ} (part more : List ℕ) {room room' : List ℕ} {m end : ℕ} → Going a xs b rest → rest ≡ part ++ more → Put m (spaced part) room 0 room' end → Appends b c (take end room') → Going a xs c more
part_gone a b c part more G split P sent =
    record {
      gone = G.gone ++ part;
      whole = G.whole ∙ ap (λ l. G.gone ++ l) split ∙ sym (append_assoc G.gone part more);
      sent = rw (spaced_both G.gone part) (Appends-trans a b c (spaced G.gone) (spaced part) G.sent (rw P.made at sent));
    }

-- a word, the numbers and the line's end
pub line_gone : (a b c d : Option (List ℕ)) (word xs : List ℕ) → Appends a b word → Appends b c (spaced xs) → Appends c d newline → Appends a d (list_line word xs)
unfolding list_line
line_gone a b c d word xs W X E = Appends-trans a c d (word ++ spaced xs) newline (Appends-trans a b c word (spaced xs) W X) E
