-- `contents::contents_fit` meets its contract: each return by its law, from the tests that led there.
use mathlib.Core.Bool.{false}
use mathlib.Core.Path.{◌≡◌, sym, ◌∙◌}
use lib.ListN.{length}
use Rattle.model.specs.Limits.{max_sheets, max_book, out_of_range}
use Rattle.model.proofs.Range.{range_facts}
use Rattle.contents.proofs.Refusal.{wrong_size, wrong_count, contents_outside, bodies_decide}
use Rattle.contents.proofs.contents_fit.Goals as goal
use Rattle.contents.proofs.contents_fit.Goals.{Else-out_of_range, Else-out_of_range-2}

-- the length is right
sized : (c : Else-out_of_range) → out_of_range max_book (length c.args.book.now) ≡ false
sized c = sym c.out_of_range.ensures ∙ c.if-out_of_range.false

-- so is the count
counted : (c : Else-out_of_range-2) → out_of_range max_sheets c.count-k.result ≡ false
counted c = sym c.out_of_range-2.ensures ∙ c.if-out_of_range-2.false

pub returns-then-out_of_range : goal.returns-then-out_of_range
returns-then-out_of_range c = sym (wrong_size _ (sym c.out_of_range.ensures ∙ c.if-out_of_range.true))

pub count-k-requires : goal.count-k-requires
count-k-requires c = (range_facts _ _ (sized (goal.at.count-k-requires c).Else-out_of_range)).0

pub returns-then-out_of_range-2 : goal.returns-then-out_of_range-2
returns-then-out_of_range-2 c =
    let wrong = sym c.out_of_range-2.ensures ∙ c.if-out_of_range-2.true in
    sym (wrong_count _ c.count-k.ensures.is (sized (goal.at.returns-then-out_of_range-2 c).Else-out_of_range) wrong)

pub returns-then-book-k : goal.returns-then-book-k
returns-then-book-k c =
    let count = c.count-k.ensures.is in
    sym (contents_outside _ count (sized (goal.at.returns-then-book-k c).Else-out_of_range) (counted (goal.at.returns-then-book-k c).Else-out_of_range-2) c.if-book-k.true)

pub bodies_fit-requires : goal.bodies_fit-requires
bodies_fit-requires c =
    record {
      count = c.count-k.ensures.is;
      some = (range_facts _ _ (counted (goal.at.bodies_fit-requires c).Else-out_of_range-2)).0;
      inside = c.if-book-k.false;
    }

pub returns : goal.returns
returns c =
    let count = c.count-k.ensures.is in
    let fits = bodies_decide _ count (sized (goal.at.returns c).Else-out_of_range) (counted (goal.at.returns c).Else-out_of_range-2) c.if-book-k.false in
    c.bodies_fit.ensures ∙ sym fits
