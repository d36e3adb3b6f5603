-- The row reading is sound: every agent finds some chore easy in it, where there are any.
-- Assumes nothing.
use Prim.Native.Nat.{ℕ}
use mathlib.Core.Bool.{false}
use mathlib.Core.List.{List}
use mathlib.Core.Path.{◌≡◌}
use Rattle.finite.specs.Search.{Hit}
use Rattle.finite.proofs.Tests.{by_test, or_left, or_right, not_on}
use Rattle.finite.proofs.Search.{all_fails}
use Rattle.model.specs.Sheet.{chores_of, is_difficult, marks_easy, all_difficult, as_read}
use Rattle.model.specs.Refusals.{sheet_refusal}
use Rattle.sheet.specs.Valid.{Valid}
use Rattle.sheet.proofs.Refusal.{valid}
use Rattle.algorithm.specs.Kinds.{Sound}

-- an agent whose row isn't all difficult marks some chore easy
marks_some : (s : List ℕ) (i : ℕ) → all_difficult s i ≡ false → Hit (chores_of s) (marks_easy s i)
unfolding all_difficult marks_easy
marks_some s i e =
    let r = all_fails (chores_of s) (is_difficult s i) e in
    record { index = r.index; below = r.below; passes = not_on r.fails }

pub read_sound : {s : List ℕ} → Valid s → Sound (as_read s)
unfolding as_read
read_sound {s} R =
    record {
      some = R.some_agent;
      positive = R.easy_positive;
      easier = R.easier;
      likes = λ i hi some.
          by_test (all_difficult s i)
          (λ e. record { index = 0; below = some; passes = or_right (marks_easy s i 0) e })
          (λ e. let r = marks_some s i e in record { index = r.index; below = r.below; passes = or_left (all_difficult s i) r.passes });
    }

pub sheet_sound : (s : List ℕ) → sheet_refusal s ≡ 0 → Sound (as_read s)
sheet_sound s passed = read_sound (valid s passed)
