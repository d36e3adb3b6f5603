-- How far the sheets of a book reach into the long lists, and what they leave there.
-- Assumes nothing.
use Prim.Native.Nat.{ℕ, zero, suc, ◌+◌, ◌*◌, ◌≤◌}
use mathlib.Core.List.{List, [], ◌++◌}
use mathlib.Core.Path.{◌≡◌, refl, ap, ◌∙◌}
use native.Mathlib.Nat.{mul-zero, mul-add}
use native.Mathlib.Numerals.{add-one}
use native.Mathlib.Omega.{arith}
use lib.ListN.{length, drop, length-append, length-drop}
use lib.Seq.{sets, take_at}
use Rattle.finite.proofs.Lists.{stretch_on}
use Rattle.finite.proofs.Sums.{sum_zero, sum_next, sum_at_most}
use Rattle.model.specs.Limits.{max_chores, book_entries}
use Rattle.model.specs.Sheet.{chores_of}
use Rattle.model.specs.Contents.{sheet_count, sheet_of}
use Rattle.model.specs.Algorithm.{State}
use Rattle.model.specs.Refusals.{sheet_refusal}
use Rattle.model.specs.Book.{own_refusal, takes_sheet, entries_of, first_entry, stretches}
use Rattle.contents.specs.Fits.{Fits}
use Rattle.allocation.specs.Final.{accepts, final_of}
use Rattle.pricebytes.specs.PriceBytes.{bytes_of, prices_in, with_prices}
use Rattle.pricebytes.proofs.Writing.{bytes-length, bytes-append}
use Rattle.book.specs.Finals.{finals_of, price_bytes, entries_in, written_of}
use Rattle.book.specs.Passed.{long_after}
use Rattle.book.proofs.Finals.{prices_sized_lem, entries-few, bytes_written, written_long}

module _ (book : List ℕ) where
  entries_are : (j : ℕ) → entries_of book j ≡ entries_in (sheet_of book j)
  unfolding entries_of takes_sheet own_refusal accepts entries_in
  entries_are j = refl

  pub first_zero : first_entry book 0 ≡ 0
  unfolding first_entry
  first_zero = sum_zero _

  pub first_next : (j : ℕ) → first_entry book (j + 1) ≡ first_entry book j + entries_in (sheet_of book j)
  unfolding first_entry
  first_next j = sum_next j _ ∙ rw (entries_are j)

  pub first_few : (j : ℕ) → first_entry book j ≤ j * max_chores
  unfolding first_entry
  first_few j = sum_at_most j max_chores (λ i l. rw (entries_are i) (entries-few (sheet_of book i)))

  -- so those of 16 sheets fit the long lists
  pub first_fits : Fits book → (j : ℕ) → j ≤ sheet_count book → first_entry book j ≤ book_entries
  first_fits f j l = omega (arith, first_few j, f.sheets_fit)

  -- what the sheets write, where `written` says it of each final state
  module _ (written : State → List ℕ) where
    stretches_zero : stretches book (finals_of book) written 0 ≡ []
    unfolding stretches
    stretches_zero = refl

    stretches_next : (j : ℕ) → stretches book (finals_of book) written (j + 1) ≡ stretches book (finals_of book) written j ++ written_of written (sheet_of book j)
    unfolding stretches takes_sheet own_refusal accepts finals_of written_of
    stretches_next j = ap (stretches book (finals_of book) written) (add-one j)

  -- one of the long lists, with so many bytes to an entry
  module _ (width : ℕ) (written : State → List ℕ) where
    pub long_zero : (lent : List ℕ) → lent ≡ long_after book width written 0 lent
    unfolding long_after
    long_zero lent = rw (stretches_zero written, first_zero, mul-zero)

    module _ (sized : (s : List ℕ) → sheet_refusal s ≡ 0 → length (written (final_of s)) ≡ width * chores_of s) where
      stretches_long : (j : ℕ) → length (stretches book (finals_of book) written j) ≡ width * first_entry book j
      stretches_long zero = rw (stretches_zero written, first_zero, mul-zero)
      stretches_long (suc j) =
          let e = add-one j in
          rw (← e, stretches_next written j, length-append, stretches_long j, written_long width written sized (sheet_of book j), first_next j, mul-add)

      module _ (j : ℕ) (lent : List ℕ) where
        pub long_kept : width * first_entry book j ≤ length lent → length (long_after book width written j lent) ≡ length lent
        unfolding long_after
        long_kept l = simp (length-append, length-drop) (omega (arith, stretches_long j))

        pub long_next : width * first_entry book (j + 1) ≤ length lent → sets (long_after book width written j lent) (width * first_entry book j) (written_of written (sheet_of book j)) ≡ long_after book width written (j + 1) lent
        unfolding long_after
        long_next room =
            let s = sheet_of book j in
            let next : width * first_entry book (j + 1) ≡ width * first_entry book j + width * entries_in s = rw (first_next j, mul-add) in
            rw (stretches_next written j, next)
            (stretch_on (stretches book (finals_of book) written j) (written_of written s) lent _ _ (stretches_long j) (written_long width written sized s) (rw next at room))

  -- prices as numbers, and their bytes
  abbrev prices : ℕ → List ℕ
  prices j = stretches book (finals_of book) (λ x. x.prices) j

  prices_bytes : (j : ℕ) → bytes_of (prices j) ≡ stretches book (finals_of book) price_bytes j
  unfolding bytes_of
  prices_bytes zero = rw (stretches_zero (λ x. x.prices), stretches_zero price_bytes)
  prices_bytes (suc j) =
      let e = add-one j in
      rw (← e, stretches_next (λ x. x.prices) j, stretches_next price_bytes j, bytes-append, prices_bytes j, bytes_written (sheet_of book j))

  -- the bytes after j sheets are those of the prices that the sheets have
  pub bytes_after : (j : ℕ) (lent : List ℕ) → long_after book 4 price_bytes j lent ≡ with_prices (first_entry book j) (prices j ++ drop (first_entry book j) (prices_in lent)) lent
  unfolding long_after with_prices
  bytes_after j lent =
      let long : length (prices j) ≡ first_entry book j = omega (arith, bytes-length (prices j), ap length (prices_bytes j), stretches_long 4 price_bytes prices_sized_lem j) in
      rw (take_at (prices j) _ (first_entry book j) long, prices_bytes j)
