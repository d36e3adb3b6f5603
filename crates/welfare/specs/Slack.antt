-- Document 02, request 8: what a slack changes, and what it does not. The law `slack-laws` says that this holds of every instance and list.
use Rattle.std.specs.Prelude.{ℕ, ◌+◌, ◌≤◌, Bool, true, cond, not, ◌≡◌, leb}
use Rattle.model.specs.Instance.{Instance}
use Rattle.model.specs.Fairness.{bundle_size, cost_to, fair, ef1, dominated}
use Rattle.model.specs.Slack.{fair_up_to, even_up_to, envy_free}
use Rattle.model.specs.Replies.{Reply, holds, unfair, wasteful}
use Rattle.model.specs.Verdicts.{first_of_pair, second_of_pair, list_verdict}

-- "the check of today", document 01's: "`holds`; or `unfair i j`, the first pair by i and then by j; or, for an even list, `wasteful`"
unfoldable pub verdict_today : Instance → (ℕ → ℕ) → Reply
verdict_today I x =
    cond (ef1 I x)
    (cond (dominated I x) wasteful holds)
    (unfair (first_of_pair I.n unfair_to + 1) (second_of_pair I.n unfair_to + 1))
  where
    unfair_to : ℕ → ℕ → Bool
    unfair_to i j = not (fair I x i j)

pub record SlackLaws (I : Instance) (x : ℕ → ℕ) : Type 0 where
  -- "With t = 0 this is plain envy-freeness": costs are compared whole,
  pub whole : (i j : ℕ) → fair_up_to 0 I x i j ≡ leb (cost_to I x i i) (cost_to I x i j)
  pub none : even_up_to 0 I x ≡ envy_free I x
  -- "and with t = 1 the check of today": it is EF1, for each pair and so for the list, and the answer is the same
  pub today : (i j : ℕ) → fair_up_to 1 I x i j ≡ fair I x i j
  pub one : even_up_to 1 I x ≡ ef1 I x
  pub verdict : list_verdict 1 I x ≡ verdict_today I x
  -- "A list that holds at one slack holds at every larger slack": so does each pair
  pub wider : (t u i j : ℕ) → t ≤ u → fair_up_to t I x i j ≡ true → fair_up_to u I x i j ≡ true
  pub larger : (t u : ℕ) → t ≤ u → even_up_to t I x ≡ true → even_up_to u I x ≡ true
  -- somebody with no more than t chores envies nobody
  pub few : (t i j : ℕ) → bundle_size I.m x i ≤ t → fair_up_to t I x i j ≡ true
