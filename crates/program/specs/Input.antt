-- What a program has of its input.
use Rattle.std.specs.Prelude.{ℕ, ◌≤◌, Option, List, length, take}
use Rattle.std.specs.Io.KnownBytes.{Consumes}

-- the first n bytes of the buffer are what the reader gave
pub record Taken (old new : Option (List ℕ)) (buf : List ℕ) (n : ℕ) : Type 0 where
  pub within : n ≤ length buf
  pub read : Consumes old new (take n buf)
