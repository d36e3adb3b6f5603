-- What a sheet's refusal 0 means, and refusal 8 of 0.
use Prim.Native.Nat.{ℕ, ◌+◌, ◌*◌, ◌-◌, ◌≤◌, ◌<◌}
use mathlib.Core.Bool.{false}
use mathlib.Core.List.{List}
use mathlib.Core.Path.{◌≡◌}
use native.Mathlib.Omega.{arith}
use lib.Dec.{eqb, leb}
use lib.ListN.{length}
use borrow.Author.Tests.{le-ltb, ltb-false, leb-false, lt-leb, eq-eqb, ne_eqb, eqb-true, eqb-false, not-false}
use Rattle.finite.specs.Packed.{bit_at}
use Rattle.finite.proofs.Tests.{or_none, or_none_intro}
use Rattle.finite.proofs.Search.{any_none, any_none_intro}
use Rattle.model.specs.Limits.{max_chores, max_weight, max_slack}
use Rattle.model.specs.Sheet.{header_size, agents_of, chores_of, easy_weight, difficult_weight, row_size, row_of, sheet_length}
use Rattle.model.specs.Record.{move_size}
use Rattle.model.specs.Refusals.{◌or_else◌, weights_fault, set_after, marks_fault, header_refusal, sheet_refusal, lent_refusal, allocate_refusal, record_refusal, recorded_refusal, slack_refusal}
use Rattle.model.proofs.Range.{range_facts, in_range}
use Rattle.sheet.specs.Valid.{Valid}
use Rattle.sheet.proofs.OrElse.{or_else_zero, when_none, peel}

-- the faults, as facts

weights_facts : (a b : ℕ) → weights_fault a b ≡ false → (0 < a) × (a < b) × (b ≤ max_weight)
weights_facts a b e =
    let none = or_none (eqb a 0) _ e in
    let rest = or_none (leb b a) _ none.1 in
    let some : a ≡ 0 → ⊥ = eqb-false a 0 none.0 in
    (omega arith, leb-false b a rest.0, ltb-false max_weight b rest.1)

weights_no_fault : (a b : ℕ) → 0 < a → a < b → b ≤ max_weight → weights_fault a b ≡ false
weights_no_fault a b some easier fit =
    or_none_intro (ne_eqb a 0 (omega arith)) (or_none_intro (lt-leb b a easier) (le-ltb max_weight b fit))

module _ (s : List ℕ) where
  padding_facts : marks_fault s ≡ false → (i k : ℕ) → i < agents_of s → k < 8 * row_size s - chores_of s → bit_at (row_of s i) (chores_of s + k) ≡ false
  unfolding marks_fault set_after
  padding_facts e i k l h = any_none _ _ (any_none _ _ e i l) k h

  padding_no_fault : ((i k : ℕ) → i < agents_of s → k < 8 * row_size s - chores_of s → bit_at (row_of s i) (chores_of s + k) ≡ false) → marks_fault s ≡ false
  unfolding marks_fault set_after
  padding_no_fault none = any_none_intro _ _ λ i l. any_none_intro _ _ λ k h. none i k l h

-- refusal 0 means that the sheet is valid
pub valid : (s : List ℕ) → sheet_refusal s ≡ 0 → Valid s
unfolding sheet_refusal header_refusal
valid s e =
    let short = peel _ 4 _ e in
    let header = or_else_zero (header_refusal (agents_of s) (chores_of s) (easy_weight s) (difficult_weight s)) _ short.1 in
    let agents = peel _ 0 _ header.0 in
    let chores = peel _ 1 _ agents.1 in
    let long = peel _ 4 _ header.1 in
    let n = range_facts _ _ agents.0 in
    let w = weights_facts _ _ (when_none _ 2 chores.1) in
    record {
      header = ltb-false (length s) header_size short.0;
      some_agent = n.0;
      agents_fit = n.1;
      chores_fit = ltb-false max_chores (chores_of s) chores.0;
      easy_positive = w.0;
      easier = w.1;
      weight_fits = w.2;
      long = eqb-true (length s) (sheet_length s) (not-false _ long.0);
      padding = padding_facts s (when_none _ 3 long.1);
    }

-- and a valid sheet is not refused
pub accepted : (s : List ℕ) → Valid s → sheet_refusal s ≡ 0
unfolding sheet_refusal header_refusal ◌or_else◌
accepted s v =
    rw (
      le-ltb _ _ v.header,
      in_range _ _ v.some_agent v.agents_fit,
      le-ltb _ _ v.chores_fit,
      weights_no_fault _ _ v.easy_positive v.easier v.weight_fits,
      eq-eqb _ _ v.long,
      padding_no_fault s v.padding,
    )

-- and refusal 8 of 0 that a lent list is long enough
pub lent_room : {needed lent : ℕ} → lent_refusal needed lent ≡ 0 → needed ≤ lent
unfolding lent_refusal
lent_room {needed} {lent} e = ltb-false lent needed (when_none _ 7 e)

-- and refusal 11 of 0 that the moves fit
pub record_room : (moves bytes : ℕ) → record_refusal moves bytes ≡ 0 → move_size * moves ≤ bytes
unfolding record_refusal
record_room moves bytes e = ltb-false bytes (move_size * moves) (when_none _ 10 e)

-- where a share-out with a record is not turned down, neither is the one without, and the moves fit
pub recorded_taken : (s : List ℕ) (owners prices scratch moves bytes : ℕ) → recorded_refusal s owners prices scratch moves bytes ≡ 0 → (allocate_refusal s owners prices scratch ≡ 0) × (move_size * moves ≤ bytes)
unfolding recorded_refusal
recorded_taken s owners prices scratch moves bytes e =
    let both = or_else_zero (allocate_refusal s owners prices scratch) (record_refusal moves bytes) e in
    (both.0, record_room moves bytes both.1)

pub lent_ok : {needed lent : ℕ} → needed ≤ lent → lent_refusal needed lent ≡ 0
unfolding lent_refusal
lent_ok {needed} {lent} l = rw (le-ltb lent needed l)

-- and a slack within its limit is not turned down
pub slack_ok : {slack : ℕ} → slack ≤ max_slack → slack_refusal slack ≡ 0
unfolding slack_refusal
slack_ok {slack} l = rw (le-ltb max_slack slack l)
