-- Document 01's answers, and what each case of the code's answers says: its word, its number and its values.
use Rattle.std.specs.Prelude.{ℕ, List, Option, Some, None, Result, Ok, Err, get_or}
use Rattle.model.specs.declared.Refusal.{Refusal}
use Rattle.model.specs.declared.ShareOut.{ShareOut}
use Rattle.model.specs.declared.ListVerdict.{ListVerdict}
use Rattle.model.specs.declared.PriceVerdict.{PriceVerdict}
use Rattle.model.specs.declared.SheetShare.{SheetShare}
use Rattle.model.specs.RefusalNumbers.{refusal_number}

pub data Reply : Type 0 where
  -- turned down, with this number
  refused : ℕ → Reply
  -- shared out: moves, cuts
  shared : ℕ → ℕ → Reply
  -- a sheet of a book: moves, cuts, first entry
  shared_at : ℕ → ℕ → ℕ → Reply
  -- joined: the length of the joined sheet
  joined : ℕ → Reply
  -- the book has no such sheet: nothing is told
  absent : Reply
  -- `holds`
  holds : Reply
  -- `unfair i j`
  unfair : ℕ → ℕ → Reply
  -- `wasteful`
  wasteful : Reply
  -- `off price r`
  off_price : ℕ → Reply
  -- `price envy i j`
  price_envy : ℕ → ℕ → Reply
  -- `accepted`
  accepted : Reply

abbrev pub share_out_reply : Result ShareOut Refusal → Reply
share_out_reply (Err k) = refused (refusal_number k)
share_out_reply (Ok out) = shared out.moves out.cuts

abbrev pub join_reply : Result ℕ Refusal → Reply
join_reply (Err k) = refused (refusal_number k)
join_reply (Ok size) = joined size

abbrev pub list_reply : Result ListVerdict Refusal → Reply
list_reply (Err k) = refused (refusal_number k)
list_reply (Ok ListVerdict.Holds) = holds
list_reply (Ok (ListVerdict.Unfair i j)) = unfair i j
list_reply (Ok ListVerdict.Wasteful) = wasteful

abbrev pub price_reply : Result PriceVerdict Refusal → Reply
price_reply (Err k) = refused (refusal_number k)
price_reply (Ok (PriceVerdict.OffPrice r)) = off_price r
price_reply (Ok (PriceVerdict.PriceEnvy i j)) = price_envy i j
price_reply (Ok PriceVerdict.Accepted) = accepted

abbrev pub sheet_reply : Option (Result SheetShare Refusal) → Reply
sheet_reply None = absent
sheet_reply (Some (Err k)) = refused (refusal_number k)
sheet_reply (Some (Ok share)) = shared_at share.moves share.cuts share.first

-- the reply of entry j of a book's results, counted from 0
abbrev pub reply_at : List (Option (Result SheetShare Refusal)) → ℕ → Reply
reply_at sheets j = sheet_reply (get_or sheets j None)
