-- What the share-out of a sheet answers, and leaves in lent lists of enough entries.
use Rattle.std.specs.Prelude.{ℕ, ◌≤◌, List, Result, Ok, Err, ◌≡◌, length, take}
use Rattle.model.specs.declared.Refusal.{Refusal}
use Rattle.model.specs.declared.ShareOut.{ShareOut}
use Rattle.model.specs.Sheet.{chores_of}
use Rattle.model.specs.RefusalNumbers.{refusal_number}
use Rattle.sheet.specs.Valid.{Valid}
use Rattle.allocation.specs.Final.{final_of}
use Rattle.pages.specs.Printer.{Printer}

-- these are the sheet's final state
pub record Ran (s : List ℕ) (count cuts : ℕ) (owners prices : List ℕ) : Type 0 where
  pub valid : Valid s
  pub count_is : count ≡ (final_of s).moves
  pub cuts_are : cuts ≡ (final_of s).cuts
  pub owners_are : owners ≡ (final_of s).owners
  pub prices_are : prices ≡ (final_of s).prices

-- an accepted sheet's stand first in the lists
pub record Left (P : Printer) (s : List ℕ) (count cuts : ℕ) (owners prices : List ℕ) : Type 0 where
  pub accepted : P.refusal s ≡ 0
  pub owners_fit : chores_of s ≤ length owners
  pub prices_fit : chores_of s ≤ length prices
  pub ran : Ran s count cuts (take (chores_of s) owners) (take (chores_of s) prices)

-- a refused one has its number
pub record TurnedDown (P : Printer) (s : List ℕ) (k : ℕ) : Type 0 where
  pub number : k ≡ P.refusal s
  pub some : k ≡ 0 → ⊥

pub record Answered (P : Printer) (s owners prices : List ℕ) (answer : Result ShareOut Refusal) : Type 0 where
  pub turned_down : (refusal : Refusal) → answer ≡ Err refusal → TurnedDown P s (refusal_number refusal)
  pub shared_out : (out : ShareOut) → answer ≡ Ok out → Left P s out.moves out.cuts owners prices
