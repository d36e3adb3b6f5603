-- What the answer of one sheet's share-out says for the results of its book.
use Rattle.std.specs.Prelude.{ℕ, Bool, true, false, Result, Ok, Err}
use Rattle.model.specs.declared.Refusal.{Refusal}
use Rattle.model.specs.declared.ShareOut.{ShareOut}
use Rattle.model.specs.RefusalNumbers.{refusal_number}
use Rattle.model.specs.Replies.{Reply, refused, shared_at}

-- shared out, and so with entries in the long lists
abbrev pub is_shared : Result ShareOut Refusal → Bool
is_shared (Ok out) = true
is_shared (Err refusal) = false

-- the sheet's entry in the results, where its entries in the long lists start at first
abbrev pub placed : ℕ → Result ShareOut Refusal → Reply
placed first (Ok out) = shared_at out.moves out.cuts first
placed first (Err refusal) = refused (refusal_number refusal)
