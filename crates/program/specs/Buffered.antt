-- What text on its way to a writer comes to.
use Rattle.std.specs.Prelude.{ℕ, List, Option, take}
use Rattle.std.specs.Io.KnownBytes.{Appends, append_known}
use Rattle.program.specs.declared.buffered.Buffered.{Buffered}

-- the bytes that the writer holds
abbrev pub handed_on : {W : Type 0} → (W → Option (List ℕ)) → Buffered W → Option (List ℕ)
handed_on contents b = contents b.to

-- the bytes that the writer holds, and then those that it is not handed yet
abbrev pub held : {W : Type 0} → (W → Option (List ℕ)) → Buffered W → Option (List ℕ)
held contents b = append_known (handed_on contents b) (take b.size b.bytes)

-- bs is added, and none of it stays in the buffer
pub record HandsOn {W : Type 0} (contents : W → Option (List ℕ)) (old new : Buffered W) (bs : List ℕ) : Type 0 where
  pub added : Appends (held contents old) (held contents new) bs
  pub out : Appends (held contents old) (handed_on contents new) bs
