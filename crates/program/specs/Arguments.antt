-- The words that a program takes as its one argument.
use Rattle.std.specs.Prelude.{ℕ, List, ◌⊎◌, ◌≡◌}
use Rattle.program.specs.declared.arguments.Asked.{Asked}
use Rattle.text.specs.Text.{ascii}

abbrev pub is_help : List ℕ → Type 0
is_help word = (word ≡ ascii "--help") ⊎ (word ≡ ascii "-h")

abbrev pub is_version : List ℕ → Type 0
is_version word = word ≡ ascii "--version"

-- what a word asks for; with none, the program's own work is asked for
abbrev pub Asks : List ℕ → Asked → Type 0
Asks word Asked.Run = ⊥
Asks word Asked.Help = is_help word
Asks word Asked.Version = is_version word
Asks word Asked.Unknown = (is_help word → ⊥) × (is_version word → ⊥)
