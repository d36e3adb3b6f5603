-- What is known of a sheet and a list of owners that are not turned down.
use Rattle.std.specs.Prelude.{ℕ, ◌≤◌, ◌<◌, List, ◌≡◌, length, get_or}
use Rattle.model.specs.Sheet.{agents_of, chores_of, easy_weight, difficult_weight}
use Rattle.model.specs.Refusals.{◌or_else◌, sheet_refusal, owners_refusal}
use Rattle.sheet.specs.Valid.{Valid}

-- the refusals that both checks start with: the sheet's, then its list of owners'
abbrev pub given_refusal : List ℕ → List ℕ → ℕ
given_refusal s owners = sheet_refusal s or_else owners_refusal (agents_of s) (chores_of s) owners

-- the accepted sheet s, and a list that holds one owner per chore, from 1 to its number of agents
pub record Given (s owners : List ℕ) : Type 0 where
  pub valid : Valid s
  pub size : length owners ≡ chores_of s
  pub positive : (c : ℕ) → c < chores_of s → 0 < get_or owners c 0
  pub bounded : (c : ℕ) → c < chores_of s → get_or owners c 0 ≤ agents_of s

-- the accepted sheet s has the weights a and b
pub record Weighed (s : List ℕ) (a b : ℕ) : Type 0 where
  pub valid : Valid s
  pub easy : a ≡ easy_weight s
  pub difficult : b ≡ difficult_weight s

-- chore c has an entry, which is an agent's number
pub record Owned (owners : List ℕ) (c : ℕ) : Type 0 where
  pub entry : c < length owners
  pub positive : 0 < get_or owners c 0

-- two weights, the easy one no greater, and one of the two marks
pub record Marked (a b mark : ℕ) : Type 0 where
  pub easier : a ≤ b
  pub either : mark < 2
