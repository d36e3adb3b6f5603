-- What a function that adds text to a lent buffer leaves. `out` is the buffer as handed in, of which the first `at` bytes are text already,
-- and out' the same memory when it returns, of which the first r are.
use Rattle.std.specs.Prelude.{ℕ, ◌+◌, ◌*◌, ◌^◌, ◌≤◌, ◌<◌, List, ◌++◌, ◌≡◌, length, take}
use Rattle.text.specs.Text.{decimal, field, spaced}

-- no more than `most` bytes more
pub record Put (most : ℕ) (text out : List ℕ) (at : ℕ) (out' : List ℕ) (r : ℕ) : Type 0 where
  pub few : r ≤ at + most
  pub made : take r out' ≡ take at out ++ text

-- a number takes as many as its digits, at most 20 in 64 bits
pub record PutNumber (n : ℕ) (out : List ℕ) (at : ℕ) (out' : List ℕ) (r : ℕ) : Type 0 where
  pub wide : r ≤ at + 20
  pub put : (d : ℕ) → 0 < d → n < 10 ^ d → Put d (decimal n) out at out' r

-- and after a word
pub record PutField (word : List ℕ) (n : ℕ) (out : List ℕ) (at : ℕ) (out' : List ℕ) (r : ℕ) : Type 0 where
  pub wide : r ≤ at + length word + 20
  pub put : (d : ℕ) → 0 < d → n < 10 ^ d → Put (length word + d) (field word n) out at out' r

-- a list of numbers of up to d digits, each after a space, that has come to entry i: the loops of `spaced_u8` and `spaced_u32`
pub record Listed (d : ℕ) (xs out : List ℕ) (at : ℕ) (out' : List ℕ) (r i : ℕ) : Type 0 where
  pub within : i ≤ length xs
  pub sized : length out' ≡ length out
  pub put : Put ((d + 1) * i) (spaced (take i xs)) out at out' r
