-- Evenness up to a slack: what is left after t chores decides.
-- Assumes nothing.
use Prim.Native.Nat.{ℕ, zero, suc, ◌+◌, ◌-◌, ◌≤◌, ◌<◌}
use mathlib.Core.Bool.{Bool, true, false, not}
use mathlib.Core.Path.{◌≡◌, refl, sym, ap, ap₂, ◌∙◌}
use native.Mathlib.Nat.{le_refl, le_trans}
use native.Mathlib.Numerals.{unary_clauses}
use native.Mathlib.Omega.{arith}
use lib.Dec.{leb}
use borrow.Author.Tests.{leb-true, le-leb, not-true}
use Rattle.finite.specs.Sums.{max_where, count_to}
use Rattle.finite.proofs.Tests.{clash, bool_eq, not_yes}
use Rattle.finite.proofs.Below.{by_less}
use Rattle.finite.proofs.Search.{any_elim, any_intro, pairs_elim, pairs_intro, pairs_cong, first_cong}
use Rattle.finite.proofs.Where.{where_none}
use Rattle.finite.proofs.Counts.{count_empty}
use Rattle.model.specs.Instance.{Instance, cost}
use Rattle.model.specs.Fairness.{bundle_size, total, cost_to, fair, ef1}
use Rattle.model.specs.Slack.{left_after, rest_cost, fair_up_to, even_up_to, envy_free}
use Rattle.model.specs.Verdicts.{envies, first_of_pair, second_of_pair, list_verdict}
use Rattle.model.proofs.Pairs.{pair_cong}
use Rattle.welfare.specs.Slack.{verdict_today, SlackLaws}
use Rattle.welfare.proofs.Evenness.{fair_elim, fair_intro}
use Rattle.welfare.proofs.TakenOff.{taken_cost, taken_count}

module _ (I : Instance) (x : ℕ → ℕ) (i : ℕ) where
  rest_none : rest_cost 0 I x i ≡ cost_to I x i i
  unfolding rest_cost left_after cost_to total
  rest_none = refl

  rest_next : (k : ℕ) → rest_cost (suc k) I x i + max_where I.m (left_after k I x i) (cost I i) ≡ rest_cost k I x i
  unfolding rest_cost left_after
  rest_next k = taken_cost I i (left_after k I x i)

  -- the more is taken off, the less is left
  rest_falls : (k l : ℕ) → k ≤ l → rest_cost l I x i ≤ rest_cost k I x i
  rest_falls k zero h = let e : k ≡ 0 = omega arith in rw e (le_refl _)
  rest_falls k (suc l) h =
      by_less l k
      (λ h'. let e : k ≡ suc l = omega arith in rw e (le_refl _))
      (λ h'. omega (arith, rest_next l, rest_falls k l h'))

  pub rest_part : (k : ℕ) → rest_cost k I x i ≤ cost_to I x i i
  rest_part k = rw rest_none at (rest_falls 0 k (omega arith))

  pub count_left : (k : ℕ) → count_to I.m (left_after k I x i) ≡ bundle_size I.m x i - k
  unfolding left_after bundle_size
  count_left zero = simp unary_clauses refl
  count_left (suc k) = omega (arith, taken_count I i (left_after k I x i), count_left k)

  rest_few : (t : ℕ) → bundle_size I.m x i ≤ t → rest_cost t I x i ≡ 0
  unfolding rest_cost
  rest_few t few =
      where_none I.m (left_after t I x i) (cost I i) (count_empty I.m (left_after t I x i) (omega (arith, count_left t)))

  module _ (j : ℕ) where
    -- one comparison decides
    pub slack_test : (t : ℕ) → fair_up_to t I x i j ≡ leb (rest_cost t I x i) (cost_to I x i j)
    unfolding fair_up_to
    slack_test t =
        let enough : ℕ → Bool = λ k. leb (rest_cost k I x i) (cost_to I x i j) in
        bool_eq
        (λ e.
        let r = any_elim (t + 1) enough e in
        le-leb _ _ (le_trans (rest_falls r.index t (omega (arith, r.below))) (leb-true _ _ r.passes)))
        (λ e. any_intro enough t (omega arith) e)

    slack_intro : (t : ℕ) → rest_cost t I x i ≤ cost_to I x i j → fair_up_to t I x i j ≡ true
    slack_intro t h = slack_test t ∙ le-leb _ _ h

    slack_elim : (t : ℕ) → fair_up_to t I x i j ≡ true → rest_cost t I x i ≤ cost_to I x i j
    slack_elim t e = leb-true _ _ (sym (slack_test t) ∙ e)

    slack_whole : fair_up_to 0 I x i j ≡ leb (cost_to I x i i) (cost_to I x i j)
    slack_whole = slack_test 0 ∙ ap₂ leb rest_none refl

    slack_today : fair_up_to 1 I x i j ≡ fair I x i j
    unfolding left_after
    slack_today =
        let off = rest_next 0 in
        bool_eq
        (λ e. fair_intro I x i j (λ _. omega (arith, off, rest_none, slack_elim 1 e)))
        (λ e. slack_intro 1 (omega (arith, off, rest_none, fair_elim I x i j e)))

    slack_wider : (t u : ℕ) → t ≤ u → fair_up_to t I x i j ≡ true → fair_up_to u I x i j ≡ true
    slack_wider t u l e = slack_intro u (le_trans (rest_falls t u l) (slack_elim t e))

    slack_few : (t : ℕ) → bundle_size I.m x i ≤ t → fair_up_to t I x i j ≡ true
    slack_few t few = slack_intro t (omega (arith, rest_few t few))

-- an agent is fair to itself, so pairs with i = j change nothing
pub slack_self : (I : Instance) (x : ℕ → ℕ) (t i : ℕ) → fair_up_to t I x i i ≡ true
slack_self I x t i = slack_intro I x i i t (rest_part I x i t)

-- whole lists

module _ (I : Instance) (x : ℕ → ℕ) (t : ℕ) where
  even_elim : even_up_to t I x ≡ true → (i j : ℕ) → i < I.n → j < I.n → fair_up_to t I x i j ≡ true
  unfolding even_up_to
  even_elim = pairs_elim I.n (fair_up_to t I x)

  pub even_intro : ((i j : ℕ) → i < I.n → j < I.n → fair_up_to t I x i j ≡ true) → even_up_to t I x ≡ true
  unfolding even_up_to
  even_intro = pairs_intro I.n (fair_up_to t I x)

  -- a pair that envies shows that the list is not even
  pub uneven : (i j : ℕ) → i < I.n → j < I.n → envies t I x i j ≡ true → even_up_to t I x ≡ false
  unfolding envies
  uneven i j l k h = not_yes _ (λ e. clash (even_elim e i j l k) (not-true _ h))

module _ (I : Instance) (x : ℕ → ℕ) where
  even_none : even_up_to 0 I x ≡ envy_free I x
  unfolding even_up_to envy_free
  even_none = pairs_cong I.n (slack_whole I x)

  pub even_one : even_up_to 1 I x ≡ ef1 I x
  unfolding even_up_to ef1
  even_one = pairs_cong I.n (slack_today I x)

  verdict_one : list_verdict 1 I x ≡ verdict_today I x
  unfolding list_verdict verdict_today envies second_of_pair
  verdict_one =
      let same : (i j : ℕ) → not (fair_up_to 1 I x i j) ≡ not (fair I x i j) = λ i j. ap not (slack_today I x i j) in
      let i = first_of_pair I.n (λ i j. not (fair I x i j)) in
      let first = pair_cong I.n (λ i j _ _. same i j) in
      let second = first_cong I.n (λ j _. same i j) in
      rw (even_one, first, second)

  pub even_larger : (t u : ℕ) → t ≤ u → even_up_to t I x ≡ true → even_up_to u I x ≡ true
  even_larger t u l e = even_intro I x u (λ i j a b. slack_wider I x i j t u l (even_elim I x t e i j a b))

  -- EF1 is enough for every slack of 1 and above
  pub even_from_one : ef1 I x ≡ true → (t : ℕ) → 0 < t → even_up_to t I x ≡ true
  even_from_one e t l = even_larger 1 t l (even_one ∙ e)

  pub slack_laws : SlackLaws I x
  slack_laws =
      record {
        whole = slack_whole I x;
        none = even_none;
        today = slack_today I x;
        one = even_one;
        verdict = verdict_one;
        wider = λ t u i j. slack_wider I x i j t u;
        larger = even_larger;
        few = λ t i j. slack_few I x i j t;
      }
