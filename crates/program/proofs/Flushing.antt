-- A text that was added to a buffer, which then was flushed, has gone whole to the writer behind it.
-- Assumes nothing.
use Prim.Native.Nat.{ℕ}
use mathlib.Core.List.{List}
use Rattle.std.specs.Prelude.{Option, Result, OnOk}
use Rattle.std.specs.Io.KnownBytes.{Keeps, Appends}
use Rattle.std.proofs.KnownBytes.{Appends-kept}
use Rattle.std.proofs.lemmas.Result.{on_ok_weaker}
use Rattle.program.specs.declared.buffered.Buffered.{Buffered}
use Rattle.program.specs.Buffered.{handed_on, held, HandsOn}

-- P is whatever is known of the text
pub flushed : {W T E : Type 0} (contents : W → Option (List ℕ)) (r : Result T E) (old now new : Buffered W) (P : List ℕ → Type 0) (text : List ℕ) → P text → Appends (held contents old) (held contents now) text → Keeps (held contents now) (held contents new) → OnOk r (Keeps (held contents now) (handed_on contents new)) → OnOk r ((text : List ℕ) × P text × HandsOn contents old new text)
flushed contents r old now new P text known added kept =
    on_ok_weaker r (λ gone. (text, known, record { added = Appends-kept _ _ _ _ added kept; out = Appends-kept _ _ _ _ added gone }))
