-- Document 01, "The sheet": what the row reading changes, and what it does not. The law `row-reading` says that this holds of every sheet
-- that breaks no rule.
use Rattle.std.specs.Prelude.{ℕ, ◌*◌, ◌<◌, true, false, List, ◌≡◌}
use Rattle.model.specs.Instance.{cost}
use Rattle.model.specs.Sheet.{agents_of, chores_of, easy_weight, difficult_weight, all_difficult, as_marked, as_read}
use Rattle.model.specs.Fairness.{ef1, dominates, dominated}
use Rattle.model.specs.Slack.{even_up_to}

pub record RowReading (s : List ℕ) : Type 0 where
  -- "That scales one person's costs": as marked, a row of difficult marks only costs b for every a that it costs as read,
  pub scales :
      (i c : ℕ) → i < agents_of s → c < chores_of s → all_difficult s i ≡ true
      → easy_weight s * cost (as_marked s) i c ≡ difficult_weight s * cost (as_read s) i c
  -- and any other row costs the same
  pub others : (i c : ℕ) → all_difficult s i ≡ false → cost (as_marked s) i c ≡ cost (as_read s) i c
  -- "and changes neither property below": every list is even as read if it is as marked, and the other way round,
  pub even : (x : ℕ → ℕ) → ef1 (as_marked s) x ≡ ef1 (as_read s) x
  -- and so at every slack,
  pub slack : (t : ℕ) (x : ℕ → ℕ) → even_up_to t (as_marked s) x ≡ even_up_to t (as_read s) x
  -- dominates the same lists,
  pub dominating : (y x : ℕ → ℕ) → dominates (as_marked s) y x ≡ dominates (as_read s) y x
  -- and is wasteful in both or in neither
  pub wasteful : (x : ℕ → ℕ) → dominated (as_marked s) x ≡ dominated (as_read s) x
