-- Document 01, "Fair and not wasteful", on prices: ratio, best chore (minimum pain per buck), price sum and price-one.
use Rattle.std.specs.Prelude.{ℕ, ◌*◌, ◌-◌, Bool, leb}
use Rattle.finite.specs.Sums.{max_where}
use Rattle.finite.specs.Search.{all_below}
use Rattle.model.specs.Instance.{Instance, cost}
use Rattle.model.specs.Fairness.{owns, total}

-- "A person's ratio for a reel is cost divided by price, compared by cross products.": agent i's ratio for c is at most that for d
unfoldable pub ratio_at_most : Instance → (ℕ → ℕ) → ℕ → ℕ → ℕ → Bool
ratio_at_most I p i c d = leb (cost I i c * p d) (cost I i d * p c)

-- "A best reel has the person's least ratio over all reels of the sheet."
unfoldable pub best : Instance → (ℕ → ℕ) → ℕ → ℕ → Bool
best I p i c = all_below I.m (λ d. ratio_at_most I p i c d)

-- "the sum of the prices held"
abbrev pub price_sum : ℕ → (ℕ → ℕ) → (ℕ → ℕ) → ℕ → ℕ
price_sum m x p i = total m x p i

-- the dearest chore held; 0 for nothing held
unfoldable pub dearest : ℕ → (ℕ → ℕ) → (ℕ → ℕ) → ℕ → ℕ
dearest m x p i = max_where m (owns x i) p

-- "Price-one of a person: the sum of the prices held, less the dearest; 0 for nothing held."
unfoldable pub price_up_to_one : ℕ → (ℕ → ℕ) → (ℕ → ℕ) → ℕ → ℕ
price_up_to_one m x p i = price_sum m x p i - dearest m x p i
