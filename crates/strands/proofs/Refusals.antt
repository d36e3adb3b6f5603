-- Refusals of two strands: where both sheets pass, their headers are there; where both can be joined, what is shown lies in one of them.
-- Assumes nothing.
use Prim.Native.Nat.{ℕ, ◌≤◌, ◌<◌}
use mathlib.Core.List.{List}
use mathlib.Core.Path.{◌≡◌}
use lib.ListN.{length}
use Rattle.model.specs.Limits.{out_of_range}
use Rattle.model.specs.Sheet.{agents_of}
use Rattle.model.specs.Strands.{joined_sheet}
use Rattle.model.specs.Refusals.{sheet_refusal, lent_refusal, strands_refusal, join_refusal, show_refusal}
use Rattle.model.proofs.Range.{range_facts}
use Rattle.sheet.specs.Valid.{Joinable}
use Rattle.sheet.proofs.OrElse.{or_else_zero, peel}
use Rattle.sheet.proofs.Refusal.{valid, lent_room}
use Rattle.sheet.proofs.Strands.{joinable}
use Rattle.strands.specs.Parts.{Headers}

module _ (first second : List ℕ) where
  pub headers : sheet_refusal first ≡ 0 → sheet_refusal second ≡ 0 → Headers first second
  headers e f = record { of_first = (valid first e).header; of_second = (valid second f).header }

  -- joining that is not refused
  module _ (lent : ℕ) (z : join_refusal first second lent ≡ 0) where
    pub join_joinable : Joinable first second
    unfolding join_refusal
    join_joinable = joinable first second (or_else_zero (strands_refusal first second) _ z).0

    pub join_room : length (joined_sheet first second) ≤ lent
    unfolding join_refusal
    join_room = lent_room (or_else_zero (strands_refusal first second) (lent_refusal (length (joined_sheet first second)) lent) z).1

  -- showing that is not refused
  module _ (person chore : ℕ) (z : show_refusal first second person chore ≡ 0) where
    pub show_joinable : Joinable first second
    unfolding show_refusal
    show_joinable = joinable first second (or_else_zero (strands_refusal first second) _ z).0

    pub show_person : (0 < person) × (person ≤ agents_of first)
    unfolding show_refusal
    show_person =
        range_facts (agents_of first) person (peel (out_of_range (agents_of first) person) 8 _ (or_else_zero (strands_refusal first second) _ z).1).0

-- headers of sheets that can be joined
pub joinable_headers : {first second : List ℕ} → Joinable first second → Headers first second
joinable_headers J = record { of_first = J.valid_first.header; of_second = J.valid_second.header }
