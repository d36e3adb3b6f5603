-- What the code for one agent's share makes of a sheet.
-- Assumes nothing.
use Prim.Native.Nat.{ℕ, ◌+◌, ◌*◌, ◌-◌, ◌≤◌, ◌∣◌}
use mathlib.Core.Bool.{not-not}
use mathlib.Core.List.{List}
use mathlib.Core.Path.{◌≡◌, ap, ◌∙◌}
use native.Mathlib.Nat.{le_trans, mul-le-mul}
use native.Mathlib.Omega.{arith}
use lib.ListN.{length, get_or, replicate, length-replicate, get_or-replicate}
use Rattle.finite.specs.Sums.{sum_where, count_to, max_to}
use Rattle.finite.proofs.Where.{where_test}
use Rattle.finite.proofs.Counts.{count_le, count_not}
use Rattle.model.specs.Limits.{max_agents, max_chores, max_weight}
use Rattle.model.specs.Sheet.{chores_of, easy_weight, difficult_weight, is_difficult, marks_easy, difficult_marks, as_marked}
use Rattle.model.specs.MaximinShare.{maximin_share}
use Rattle.sheet.specs.Readers.{SheetRead}
use Rattle.measures.specs.Dealing.{dealt_on, Dealing}
use Rattle.measures.proofs.Bearable.{difficult_count, easy_count}
use Rattle.measures.proofs.Dealing.{dealt_long, dealt_at_most}
use Rattle.measures.proofs.Shares.{dealt_costs, dealt_top, share_dealt}

-- an agent's difficult chores are its difficult marks, and its easy ones the others
pub difficult_marked : (s : List ℕ) (i : ℕ) → difficult_count (as_marked s) i ≡ difficult_marks s i
unfolding as_marked marks_easy difficult_marks count_to sum_where
difficult_marked s i = where_test (chores_of s) (λ c. 1) (λ c l. not-not (is_difficult s i c))

pub easy_marked : (s : List ℕ) (i : ℕ) → easy_count (as_marked s) i ≡ chores_of s - difficult_marks s i
unfolding as_marked
easy_marked s i = omega (arith, count_not (chores_of s) (marks_easy s i), difficult_marked s i)

module _ {s : List ℕ} {n m : ℕ} (g : SheetRead s n m) (i : ℕ) {difficult : ℕ} (marks : difficult ≡ difficult_marks s i) where
  pub few-marks : difficult ≤ m
  unfolding difficult_marks
  few-marks = rw (marks, g.chores) (count_le (chores_of s) (is_difficult s i))

  -- so many chores of one weight, and what they cost at most
  few_in_all_lem : {w k : ℕ} → w ≤ max_weight → k ≤ m → w * k ≤ max_weight * max_chores
  few_in_all_lem h l =
      let most : m ≤ max_chores = rw g.chores g.valid.chores_fit in
      mul-le-mul h (le_trans l most)

  module _ {b : ℕ} {costs : List ℕ} (weight : b ≡ difficult_weight s) (zeros : costs ≡ replicate max_agents 0) where
    -- the difficult ones, of bundles that cost nothing
    pub first_dealing : Dealing n b difficult costs
    first_dealing =
        let ok = g.valid in
        record {
          some = rw g.agents ok.some_agent;
          positive = omega (arith, ok.easier);
          agents = rw g.agents ok.agents_fit;
          size = ap length zeros ∙ length-replicate {A = ℕ} max_agents 0;
          small = λ k l.
              let none : get_or costs k 0 ≡ 0 = rw zeros (get_or-replicate {A = ℕ} max_agents k 0 0 (omega (arith, g.agents, ok.agents_fit))) in
              omega (arith, few_in_all_lem {w = b} {k = difficult} (rw weight ok.weight_fits) few-marks);
        }

    -- the easy ones after them
    module _ {a : ℕ} {costs' : List ℕ} (light : a ≡ easy_weight s) (first : costs' ≡ dealt_on n b difficult costs) where
      pub second_dealing : Dealing n a (m - difficult) costs'
      second_dealing =
          let ok = g.valid in
          let d = first_dealing in
          record {
            some = d.some;
            positive = rw light ok.easy_positive;
            agents = d.agents;
            size = ap length first ∙ dealt_long n b difficult costs ∙ d.size;
            small = λ k l.
                let none : get_or costs k 0 ≡ 0 = rw zeros (get_or-replicate {A = ℕ} max_agents k 0 0 (omega (arith, d.agents))) in
                let most : get_or costs' k 0 ≤ get_or costs k 0 + b * difficult = rw first (dealt_at_most b difficult costs d.some (omega (arith, d.size, d.agents)) k) in
                omega (arith, few_in_all_lem {w = b} {k = difficult} (rw weight ok.weight_fits) few-marks, few_in_all_lem {w = a} {k = m - difficult} (omega (arith, ok.easier, ok.weight_fits)) (omega arith));
          }

      -- the costliest bundle costs the agent's share
      pub share_found : {r : ℕ} {costs'' : List ℕ} → easy_weight s ∣ difficult_weight s → costs'' ≡ dealt_on n a (m - difficult) costs' → r ≡ max_to n (λ k. get_or costs'' k 0) → r ≡ maximin_share (as_marked s) i
      unfolding as_marked
      share_found {r} {costs''} divides second top =
          let ok = g.valid in
          let I = as_marked s in
          let same : costs'' ≡ dealt_costs I i max_agents = rw (second, first, zeros, light, weight, marks, g.agents, g.chores, difficult_marked s i, easy_marked s i) in
          rw (top, same, g.agents, dealt_top I i ok.some_agent max_agents ok.agents_fit, share_dealt I i ok.some_agent ok.easy_positive (omega (arith, ok.easier)) divides)
