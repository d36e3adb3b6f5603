-- Laws of the sums that the test for evenness goes by.
-- Assumes nothing.
use Prim.Native.Nat.{ℕ, ◌*◌, ◌-◌, ◌≤◌, ◌<◌}
use mathlib.Core.List.{List}
use mathlib.Core.Bool.{false}
use mathlib.Core.Path.{◌≡◌, sym, ap, ◌∙◌}
use native.Mathlib.Nat.{le_of_lt, le_trans, mul-le-mul}
use native.Mathlib.Omega.{arith}
use lib.Dec.{ltb}
use lib.ListN.{get_or}
use borrow.Author.Tests.{ltb-false, le-ltb}
use Rattle.std.specs.Prelude.{Option, None, is_some}
use Rattle.finite.specs.Search.{first_below, if_below}
use Rattle.finite.specs.Lists.{Table}
use Rattle.finite.proofs.Below.{less_is}
use Rattle.finite.proofs.Search.{any_none, first_cong, first_none_intro}
use Rattle.finite.proofs.Found.{below_none}
use Rattle.finite.proofs.Sweeps.{sums_bound}
use Rattle.model.specs.Limits.{max_agents, max_chores, max_weight}
use Rattle.model.specs.Instance.{cost, owner_of}
use Rattle.model.specs.Sheet.{agents_of, chores_of, as_marked}
use Rattle.model.specs.Fairness.{owns, total, cost_to}
use Rattle.model.specs.Slack.{rest_cost}
use Rattle.model.specs.Verdicts.{envies}
use Rattle.welfare.proofs.Slack.{rest_part, slack_test}
use Rattle.welfare.proofs.Costs.{cost_at_most}
use Rattle.given.specs.Given.{Given}
use Rattle.given.proofs.Found.{any_found}
use Rattle.evenness.specs.Off.{Off}

module _ {s owners : List ℕ} (g : Given s owners) (i : ℕ) where
  -- a sum has room for one cost more
  pub sums_fit_lem : {c : ℕ} {sums : List ℕ} → c < chores_of s → Table max_agents (total c (owner_of owners) (cost (as_marked s) i)) sums → (j : ℕ) → j < max_agents → get_or sums j 0 ≤ max_chores * max_weight
  unfolding as_marked total owns
  sums_fit_lem {c} l h j k =
      let v = g.valid in
      let few : c ≤ max_chores = omega (arith, v.chores_fit) in
      le_trans (sums_bound (owner_of owners) (cost (as_marked s) i) h (λ d _. cost_at_most (as_marked s) i d (le_of_lt v.easier)) j k) (mul-le-mul few v.weight_fits)

  module _ (below : i < agents_of s) {sums : List ℕ} (h : Table max_agents (cost_to (as_marked s) (owner_of owners) i) sums) where
    module _ {t off : ℕ} (taken : Off s owners t i off) where
      -- whom agent i envies, by what the rest of its chores cost
      envied : (j : ℕ) → j < agents_of s → ltb (get_or sums j 0) (get_or sums i 0 - off) ≡ envies t (as_marked s) (owner_of owners) i j
      unfolding envies
      envied j l =
          let I = as_marked s in
          let x = owner_of owners in
          let few = g.valid.agents_fit in
          let rest : cost_to I x i i - off ≡ rest_cost t I x i = omega (arith, taken.whole) in
          rw (h.entry i (omega arith), h.entry j (omega arith), rest, slack_test I x i j t) (less_is (cost_to I x i j) (rest_cost t I x i))

      pub envied_first : if_below (agents_of s) (first_below (agents_of s) (λ j. ltb (get_or sums j 0) (get_or sums i 0 - off))) ≡ if_below (agents_of s) (first_below (agents_of s) (envies t (as_marked s) (owner_of owners) i))
      envied_first = ap (if_below (agents_of s)) (first_cong (agents_of s) envied)

    -- nobody's chores would cost agent i less than its own do: it envies nobody
    pub envied_none : (t : ℕ) {r : Option ℕ} → r ≡ if_below (agents_of s) (first_below (agents_of s) (λ j. ltb (get_or sums j 0) (get_or sums i 0))) → is_some r ≡ false → None ≡ if_below (agents_of s) (first_below (agents_of s) (envies t (as_marked s) (owner_of owners) i))
    envied_none t e none =
        let I = as_marked s in
        let x = owner_of owners in
        let off = cost_to I x i i - rest_cost t I x i in
        let taken : Off s owners t i off = record { whole = omega (arith, rest_part I x i t) } in
        let nobody = sym (any_found (agents_of s) _) ∙ sym (ap is_some e) ∙ none in
        let all = first_none_intro (agents_of s) (envies t I x i) λ j l.
        let dearer = ltb-false (get_or sums j 0) (get_or sums i 0) (any_none (agents_of s) _ nobody j l) in
        sym (envied taken j l) ∙ le-ltb (get_or sums j 0) (get_or sums i 0 - off) (omega arith) in
        sym (rw all (below_none (agents_of s)))
