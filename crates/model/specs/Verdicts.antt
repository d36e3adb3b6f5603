-- Document 01, "The two checks", and document 02, request 8: the answer that a list, or a list with prices, gets. Costs are as marked.
use Rattle.std.specs.Prelude.{ℕ, ◌+◌, Bool, cond, not, ◌&&◌, List, eqb, ltb}
use Rattle.finite.specs.Search.{any_below, first_below}
use Rattle.model.specs.Instance.{Instance, owner_of, price_of}
use Rattle.model.specs.Sheet.{as_marked}
use Rattle.model.specs.Fairness.{holds_any, dominated}
use Rattle.model.specs.Slack.{fair_up_to, even_up_to}
use Rattle.model.specs.Prices.{best, price_sum, price_up_to_one}
use Rattle.model.specs.Refusals.{list_refusal, price_refusal}
use Rattle.model.specs.Replies.{Reply, refused, holds, unfair, wasteful, off_price, price_envy, accepted}

-- "the first pair by i and then by j": its i, and its j
unfoldable pub first_of_pair : ℕ → (ℕ → ℕ → Bool) → ℕ
first_of_pair n t = first_below n (λ i. any_below n (λ j. t i j))

unfoldable pub second_of_pair : ℕ → (ℕ → ℕ → Bool) → ℕ
second_of_pair n t = first_below n (λ j. t (first_of_pair n t) j)

-- a refusal, or else the answer
unfoldable pub unless_refused : ℕ → Reply → Reply
unless_refused k answer = cond (eqb k 0) answer (refused k)

-- agent i is not fair to agent j, with a slack of t chores
unfoldable pub envies : ℕ → Instance → (ℕ → ℕ) → ℕ → ℕ → Bool
envies t I x i j = not (fair_up_to t I x i j)

-- "`holds`; or `unfair i j`, the first pair by i and then by j; or, for an even list, `wasteful`". "The list check takes a slack t", and "the
-- pair named is still the first".
unfoldable pub list_verdict : ℕ → Instance → (ℕ → ℕ) → Reply
list_verdict t I x =
    cond (even_up_to t I x)
    (cond (dominated I x) wasteful holds)
    (unfair (first_of_pair I.n (envies t I x) + 1) (second_of_pair I.n (envies t I x) + 1))

-- "the first reel that isn't a best reel of its owner"
unfoldable pub first_off_price : Instance → (ℕ → ℕ) → (ℕ → ℕ) → ℕ
first_off_price I x p = first_below I.m (λ c. not (best I p (x c) c))

-- "i holding a reel, where i's price-one is above j's sum"
unfoldable pub envies_by_price : Instance → (ℕ → ℕ) → (ℕ → ℕ) → ℕ → ℕ → Bool
envies_by_price I x p i j = holds_any I.m x i && ltb (price_sum I.m x p j) (price_up_to_one I.m x p i)

-- "`off price r` ..; else `price envy i j`, the first pair ..; else `accepted`"
unfoldable pub price_verdict : Instance → (ℕ → ℕ) → (ℕ → ℕ) → Reply
price_verdict I x p =
    cond (ltb (first_off_price I x p) I.m) (off_price (first_off_price I x p + 1))
    (cond (ltb (first_of_pair I.n (envies_by_price I x p)) I.n)
    (price_envy (first_of_pair I.n (envies_by_price I x p) + 1) (second_of_pair I.n (envies_by_price I x p) + 1))
    accepted)

-- the list check's answer, with its slack and the length of the list lent for a dominating one
unfoldable pub list_check : List ℕ → List ℕ → ℕ → ℕ → Reply
list_check s owners slack lent = unless_refused (list_refusal s owners slack lent) (list_verdict slack (as_marked s) (owner_of owners))

-- the price check's answer
unfoldable pub price_check : List ℕ → List ℕ → List ℕ → Reply
price_check s owners prices =
    unless_refused (price_refusal s owners prices) (price_verdict (as_marked s) (owner_of owners) (price_of prices))
