-- What holds when the first j sheets of a book have passed: the invariant of the loop over them.
use Rattle.std.specs.Prelude.{ℕ, ◌*◌, ◌≤◌, cond, List, ◌++◌, Option, Result, ◌≡◌, ltb, length, drop}
use Rattle.finite.specs.Sums.{sum_to}
use Rattle.model.specs.declared.Refusal.{Refusal}
use Rattle.model.specs.declared.Tally.{Tally}
use Rattle.model.specs.declared.SheetShare.{SheetShare}
use Rattle.model.specs.Limits.{max_sheets}
use Rattle.model.specs.Contents.{sheet_count, sheet_of}
use Rattle.model.specs.Algorithm.{State}
use Rattle.model.specs.Replies.{Reply, refused, shared_at, absent, reply_at}
use Rattle.model.specs.Book.{own_refusal, first_entry, stretches}
use Rattle.allocation.specs.Final.{accepts}
use Rattle.book.specs.Finals.{finals_of, owner_bytes, price_bytes}

module _ (book : List ℕ) where
  -- the answer for sheet i, one of the book's
  unfoldable pub told : ℕ → Reply
  told i =
      cond (accepts (sheet_of book i))
      (shared_at (finals_of book i).moves (finals_of book i).cuts (first_entry book i))
      (refused (own_refusal book i))

  -- what sheet i adds to the tally
  unfoldable pub counts : (State → ℕ) → ℕ → ℕ
  counts counted i = cond (accepts (sheet_of book i)) (counted (finals_of book i)) 0

  -- one of the long lists after j sheets, with so many bytes to an entry
  unfoldable pub long_after : ℕ → (State → List ℕ) → ℕ → List ℕ → List ℕ
  long_after width written j lent = stretches book (finals_of book) written j ++ drop (width * first_entry book j) lent

  pub record Passed (lent_owners lent_prices lent_scratch owners prices scratch : List ℕ) (sheets : List (Option (Result SheetShare Refusal))) (total : Tally) (first j : ℕ) : Type 0 where
    pub within : j ≤ sheet_count book
    pub first_free : first ≡ first_entry book j
    pub size : length sheets ≡ max_sheets
    pub answers : (i : ℕ) → reply_at sheets i ≡ cond (ltb i j) (told i) absent
    pub moves : total.moves ≡ sum_to j (counts (λ x. x.moves))
    pub cuts : total.cuts ≡ sum_to j (counts (λ x. x.cuts))
    pub owners_now : owners ≡ long_after 1 owner_bytes j lent_owners
    pub prices_now : prices ≡ long_after 4 price_bytes j lent_prices
    pub scratch_now : scratch ≡ lent_scratch
