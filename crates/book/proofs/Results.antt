-- Laws of the results' entries, and of what the answer of a share-out says for them.
-- Assumes nothing.
use Prim.Native.Nat.{ℕ, ◌<◌}
use mathlib.Core.Bool.{Bool, true, false, cond}
use mathlib.Core.List.{List}
use mathlib.Core.Path.{◌≡◌, refl, ap}
use native.Mathlib.Omega.{arith}
use lib.ListN.{length, get_or, set, replicate, length-replicate, get_or-replicate, get_or-eq_default}
use lib.Seq.{get_or-set_same, get_or-set_other}
use Rattle.finite.proofs.Below.{by_less}
use Rattle.std.specs.Prelude.{Option, Some, None, Result, Ok, Err}
use Rattle.model.specs.declared.Refusal.{Refusal}
use Rattle.model.specs.declared.ShareOut.{ShareOut}
use Rattle.model.specs.declared.SheetShare.{SheetShare}
use Rattle.model.specs.Limits.{max_sheets}
use Rattle.model.specs.Replies.{refused, shared, shared_at, absent, share_out_reply, sheet_reply, reply_at}
use Rattle.tally.specs.Counting.{moves_added, cuts_added}
use Rattle.book.specs.Said.{is_shared, placed}
use Rattle.book.specs.Steps.{no_entries}

same_everywhere : {A : Type 0} (n j : ℕ) (a : A) → get_or (replicate n a) j a ≡ a
same_everywhere n j a =
    by_less j n (λ l. get_or-replicate n j a a l) (λ l. get_or-eq_default (replicate n a) a (rw (length-replicate n a) l))

pub none_at : (j : ℕ) → reply_at no_entries j ≡ absent
none_at j = ap sheet_reply (same_everywhere max_sheets j None)

module _ (sheets : List (Option (Result SheetShare Refusal))) (j : ℕ) (new : Result SheetShare Refusal) where
  pub reply_new : j < length sheets → reply_at (set sheets j (Some new)) j ≡ sheet_reply (Some new)
  reply_new l = ap sheet_reply (get_or-set_same sheets j (Some new) _ l)

  pub reply_kept : (i : ℕ) → (i ≡ j → ⊥) → reply_at (set sheets j (Some new)) i ≡ reply_at sheets i
  reply_kept i ne = ap sheet_reply (get_or-set_other sheets j i (Some new) _ ne)

-- an answer by cases, taken apart
pub record Parts (out : Result ShareOut Refusal) (t : Bool) (moves cuts number : ℕ) : Type 0 where
  pub whether : is_shared out ≡ t
  pub place : (first : ℕ) → placed first out ≡ cond t (shared_at moves cuts first) (refused number)
  pub moves_are : moves_added out ≡ cond t moves 0
  pub cuts_are : cuts_added out ≡ cond t cuts 0

pub parts : (out : Result ShareOut Refusal) (t : Bool) {moves cuts number : ℕ} → share_out_reply out ≡ cond t (shared moves cuts) (refused number) → Parts out t moves cuts number
parts (Err k) true e = let z : ◌≡◌ {A = ℕ} 0 1 = cc in absurd (omega arith)
parts (Err k) false e = record { whether = refl; place = λ first. cc; moves_are = refl; cuts_are = refl }
parts (Ok out) true e = record { whether = refl; place = λ first. cc; moves_are = cc; cuts_are = cc }
parts (Ok out) false e = let z : ◌≡◌ {A = ℕ} 0 1 = cc in absurd (omega arith)
