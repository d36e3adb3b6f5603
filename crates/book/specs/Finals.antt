-- What the share-out of each sheet of a book comes to.
use Rattle.std.specs.Prelude.{ℕ, cond, List, []}
use Rattle.model.specs.Sheet.{chores_of}
use Rattle.model.specs.Contents.{sheet_of}
use Rattle.model.specs.Algorithm.{State}
use Rattle.model.specs.Refusals.{sheet_refusal}
use Rattle.model.specs.Replies.{Reply, refused, shared}
use Rattle.allocation.specs.Final.{accepts, final_of}
use Rattle.pricebytes.specs.PriceBytes.{bytes_of}

-- the state in which each sheet ends, counted from 0
unfoldable pub finals_of : List ℕ → ℕ → State
finals_of book j = final_of (sheet_of book j)

-- the bytes that a final state has for each of the long lists: one an owner, four a price
abbrev pub owner_bytes : State → List ℕ
owner_bytes x = x.owners

abbrev pub price_bytes : State → List ℕ
price_bytes x = bytes_of x.prices

-- how many entries a sheet takes
unfoldable pub entries_in : List ℕ → ℕ
entries_in s = cond (accepts s) (chores_of s) 0

-- the answer of a sheet's share-out where enough memory is lent
unfoldable pub answer_of : List ℕ → Reply
answer_of s = cond (accepts s) (shared (final_of s).moves (final_of s).cuts) (refused (sheet_refusal s))

-- what it writes into one of the lists
unfoldable pub written_of : (State → List ℕ) → List ℕ → List ℕ
written_of written s = cond (accepts s) (written (final_of s)) []
