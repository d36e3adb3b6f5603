-- The row reading scales the costs of some agents, and so changes no comparison of an agent's costs: neither evenness, nor waste, nor which
-- chores are best.
-- Assumes nothing.
use Prim.Native.Nat.{ℕ, zero, suc, ◌+◌, ◌*◌, ◌<◌}
use mathlib.Core.Bool.{Bool, true, false, not, ◌&&◌}
use mathlib.Core.List.{List}
use mathlib.Core.Path.{◌≡◌, refl, sym, ap, ap₂, ◌∙◌}
use native.Mathlib.Omega.{arith}
use lib.Dec.{eqb, leb, ltb}
use borrow.Author.Tests.{not-true}
use Rattle.finite.specs.Sums.{sum_where}
use Rattle.finite.proofs.Tests.{by_test, or_right, leb_scaled, ltb_scaled}
use Rattle.finite.proofs.Search.{any_cong, all_elim, all_cong, pairs_cong}
use Rattle.finite.proofs.Where.{where_test, where_scale_eq}
use Rattle.finite.proofs.Chosen.{chosen_cong}
use Rattle.finite.proofs.Lists.{list_cong}
use Rattle.model.specs.Instance.{cost, owner_of}
use Rattle.model.specs.Sheet.{agents_of, chores_of, easy_weight, difficult_weight, marks_easy, all_difficult, as_marked, as_read}
use Rattle.model.specs.Fairness.{owns, total, cost_to, ef1, dominates, dominated}
use Rattle.model.specs.Slack.{costliest, without_costliest, left_after, rest_cost, fair_up_to, even_up_to}
use Rattle.model.specs.Prices.{best, ratio_at_most}
use Rattle.model.specs.Refusals.{sheet_refusal}
use Rattle.sheet.specs.Valid.{Valid}
use Rattle.sheet.proofs.Marks.{all_difficult_row}
use Rattle.sheet.proofs.Refusal.{valid}
use Rattle.welfare.specs.Reading.{RowReading}
use Rattle.welfare.proofs.Costs.{cost_easy, cost_difficult}
use Rattle.welfare.proofs.Slack.{even_one}

-- agent i's costs as marked, each `marked` times, are its costs as read, each `read` times
record Scaled (s : List ℕ) (i : ℕ) : Type 0 where
  marked : ℕ
  read : ℕ
  marked_positive : 0 < marked
  read_positive : 0 < read
  scaled : (c : ℕ) → c < chores_of s → marked * cost (as_marked s) i c ≡ read * cost (as_read s) i c

module _ {s : List ℕ} (v : Valid s) where
  module _ (i : ℕ) where
    -- a row of difficult marks only costs b as marked, and a as read
    marked_difficult : all_difficult s i ≡ true → (c : ℕ) → c < chores_of s → cost (as_marked s) i c ≡ difficult_weight s
    unfolding as_marked
    marked_difficult e c k =
        let row = rw (all_difficult_row s i) at e in
        cost_difficult (as_marked s) i c (not-true (marks_easy s i c) (all_elim (chores_of s) (λ c. not (marks_easy s i c)) row c k))

    read_easy : all_difficult s i ≡ true → (c : ℕ) → cost (as_read s) i c ≡ easy_weight s
    unfolding as_read
    read_easy e c = cost_easy (as_read s) i c (or_right (marks_easy s i c) e)

    difficult_scaled : (c : ℕ) → c < chores_of s → all_difficult s i ≡ true → easy_weight s * cost (as_marked s) i c ≡ difficult_weight s * cost (as_read s) i c
    difficult_scaled c k e = rw (marked_difficult e c k, read_easy e c) (omega arith)

    -- any other row costs the same
    read_as_marked : (c : ℕ) → all_difficult s i ≡ false → cost (as_marked s) i c ≡ cost (as_read s) i c
    unfolding cost as_marked as_read
    read_as_marked c e = by_test (marks_easy s i c) (λ h. rw h) (λ h. rw (h, e))

    scaling : Scaled s i
    scaling =
        by_test (all_difficult s i)
        (λ e.
        record {
          marked = easy_weight s;
          read = difficult_weight s;
          marked_positive = v.easy_positive;
          read_positive = omega (arith, v.easier);
          scaled = λ c k. difficult_scaled c k e;
        })
        (λ e.
        record {
          marked = 1;
          read = 1;
          marked_positive = omega arith;
          read_positive = omega arith;
          scaled = λ c k. ap (λ w. 1 * w) (read_as_marked c e);
        })

    sums_scaled : (t : ℕ → Bool) → scaling.marked * sum_where (chores_of s) t (cost (as_marked s) i) ≡ scaling.read * sum_where (chores_of s) t (cost (as_read s) i)
    sums_scaled t =
        let r = scaling in
        where_scale_eq (chores_of s) r.marked r.read t (cost (as_marked s) i) (cost (as_read s) i) (λ c k _. r.scaled c k)

    -- what the chores t cost agent i, compared with what the chores u do
    at_most_same : (t u : ℕ → Bool) → leb (sum_where (chores_of s) t (cost (as_marked s) i)) (sum_where (chores_of s) u (cost (as_marked s) i)) ≡ leb (sum_where (chores_of s) t (cost (as_read s) i)) (sum_where (chores_of s) u (cost (as_read s) i))
    at_most_same t u =
        let r = scaling in leb_scaled _ _ _ _ (sums_scaled t) (sums_scaled u) r.marked_positive r.read_positive

    less_same : (t u : ℕ → Bool) → ltb (sum_where (chores_of s) t (cost (as_marked s) i)) (sum_where (chores_of s) u (cost (as_marked s) i)) ≡ ltb (sum_where (chores_of s) t (cost (as_read s) i)) (sum_where (chores_of s) u (cost (as_read s) i))
    less_same t u =
        let r = scaling in ltb_scaled _ _ _ _ (sums_scaled t) (sums_scaled u) r.marked_positive r.read_positive

    -- the same chores are taken off
    costliest_same : {t u : ℕ → Bool} → ((c : ℕ) → t c ≡ u c) → costliest (as_marked s) i t ≡ costliest (as_read s) i u
    unfolding costliest as_marked as_read
    costliest_same same =
        let r = scaling in
        chosen_cong (chores_of s) (λ c _. same c) (λ d c hd hc. ltb_scaled _ _ _ _ (r.scaled c hc) (r.scaled d hd) r.marked_positive r.read_positive)

    left_same : (k : ℕ) (x : ℕ → ℕ) (c : ℕ) → left_after k (as_marked s) x i c ≡ left_after k (as_read s) x i c
    unfolding left_after without_costliest
    left_same zero x c = refl
    left_same (suc k) x c = ap₂ (λ b top. b && not (eqb c top)) (left_same k x c) (costliest_same (left_same k x))

    rest_same : (k : ℕ) (x : ℕ → ℕ) (j : ℕ) → leb (rest_cost k (as_marked s) x i) (cost_to (as_marked s) x i j) ≡ leb (rest_cost k (as_read s) x i) (cost_to (as_read s) x i j)
    unfolding rest_cost cost_to total as_marked as_read
    rest_same k x j =
        ap (λ rest. leb rest (cost_to (as_marked s) x i j)) (where_test (chores_of s) (cost (as_marked s) i) (λ c _. left_same k x c))
        ∙ at_most_same (left_after k (as_read s) x i) (owns x j)

    fair_same : (t : ℕ) (x : ℕ → ℕ) (j : ℕ) → fair_up_to t (as_marked s) x i j ≡ fair_up_to t (as_read s) x i j
    unfolding fair_up_to
    fair_same t x j = any_cong (t + 1) (λ k _. rest_same k x j)

    -- a ratio compares costs times prices
    ratio_same : (p : ℕ → ℕ) (c d : ℕ) → c < chores_of s → d < chores_of s → ratio_at_most (as_marked s) p i c d ≡ ratio_at_most (as_read s) p i c d
    unfolding ratio_at_most
    ratio_same p c d hc hd =
        let r = scaling in
        let M = cost (as_marked s) i in
        let R = cost (as_read s) i in
        let left : r.marked * (M c * p d) ≡ r.read * (R c * p d) = omega (arith, ap (λ w. w * p d) (r.scaled c hc)) in
        let right : r.marked * (M d * p c) ≡ r.read * (R d * p c) = omega (arith, ap (λ w. w * p c) (r.scaled d hd)) in
        leb_scaled _ _ _ _ left right r.marked_positive r.read_positive

    pub best_same : (p : ℕ → ℕ) (c : ℕ) → c < chores_of s → best (as_marked s) p i c ≡ best (as_read s) p i c
    unfolding best as_marked as_read
    best_same p c hc = all_cong (chores_of s) (λ d hd. ratio_same p c d hc hd)

  even_same : (t : ℕ) (x : ℕ → ℕ) → even_up_to t (as_marked s) x ≡ even_up_to t (as_read s) x
  unfolding even_up_to as_marked as_read
  even_same t x = pairs_cong (agents_of s) (λ i j. fair_same i t x j)

  ef1_same : (x : ℕ → ℕ) → ef1 (as_marked s) x ≡ ef1 (as_read s) x
  ef1_same x = sym (even_one (as_marked s) x) ∙ even_same 1 x ∙ even_one (as_read s) x

  dominates_same : (y x : ℕ → ℕ) → dominates (as_marked s) y x ≡ dominates (as_read s) y x
  unfolding dominates cost_to total as_marked as_read
  dominates_same y x =
      ap₂ ◌&&◌
      (all_cong (agents_of s) (λ i _. at_most_same i (owns y i) (owns x i)))
      (any_cong (agents_of s) (λ i _. less_same i (owns y i) (owns x i)))

  dominated_same : (x : ℕ → ℕ) → dominated (as_marked s) x ≡ dominated (as_read s) x
  unfolding dominated as_marked as_read
  dominated_same x =
      list_cong (agents_of s) (chores_of s) (λ y. dominates (as_marked s) (owner_of y) x) (λ y. dominates (as_read s) (owner_of y) x) (λ y _. dominates_same (owner_of y) x)

-- document 01: the row reading "scales one person's costs and changes neither property below"
pub row_reading : (s : List ℕ) → sheet_refusal s ≡ 0 → RowReading s
row_reading s passed =
    let v = valid s passed in
    record {
      scales = λ i c l k e. omega (arith, difficult_scaled v i c k e);
      others = read_as_marked v;
      even = ef1_same v;
      slack = even_same v;
      dominating = dominates_same v;
      wasteful = dominated_same v;
    }
