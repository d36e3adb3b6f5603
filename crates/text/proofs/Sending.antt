-- What the standard library writes of numbers is the text of our definitions.
-- Assumes nothing.
use Prim.Native.Nat.{ℕ, ◌^◌, ◌<◌}
use mathlib.Core.List.{List, ◌++◌, append_assoc}
use mathlib.Core.Path.{◌≡◌}
use Rattle.std.specs.Fmt as std
use Rattle.text.specs.Text.{field, newline}
use Rattle.text.proofs.Decimal.{decimal_shown}

-- a word and a number after it, up to three times, and the line's end
module _ (a : List ℕ) (k : ℕ) (f : k < 2 ^ 64) where
  pub one_field : field a k ++ newline ≡ a ++ (std.decimal k ++ newline)
  unfolding field
  one_field = rw (decimal_shown k f) (simp append_assoc)

  module _ (b : List ℕ) (m : ℕ) (g : m < 2 ^ 64) where
    pub two_fields : field a k ++ field b m ++ newline ≡ a ++ (std.decimal k ++ (b ++ (std.decimal m ++ newline)))
    unfolding field
    two_fields = rw (decimal_shown k f, decimal_shown m g) (simp append_assoc)

    pub three_fields : (c : List ℕ) (n : ℕ) → n < 2 ^ 64 → field a k ++ field b m ++ field c n ++ newline ≡ a ++ (std.decimal k ++ (b ++ (std.decimal m ++ (c ++ (std.decimal n ++ newline)))))
    unfolding field
    three_fields c n h = rw (decimal_shown k f, decimal_shown m g, decimal_shown n h) (simp append_assoc)
