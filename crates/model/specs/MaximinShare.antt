-- Document 02, request 9, "Everyone's own measure": an agent's maximin share. The document's splits into piles are partitions into bundles here.
-- And request 10, "Lists that respect the measure".
use Rattle.std.specs.Prelude.{ℕ, zero, suc, ◌+◌, Bool, true, cond, not, List, eqb, leb, ltb, get_or, set, replicate}
use Rattle.finite.specs.Sums.{sum_where, max_to}
use Rattle.finite.specs.Search.{chosen, all_below}
use Rattle.finite.specs.Lists.{least_list, tabulate}
use Rattle.model.specs.Instance.{Instance, cost}
use Rattle.model.specs.Sheet.{agents_of, as_marked}
use Rattle.model.specs.Fairness.{cost_to, is_allocation}

-- "split the sheet into n piles": for each chore the number of its bundle, from 1 to n. That is the shape of an allocation.
abbrev pub is_partition : Instance → List ℕ → Bool
is_partition I bundles = is_allocation I bundles

-- chore c is in bundle k, counted from 0. The number 0 stands for a chore that is in none yet.
unfoldable pub in_bundle : List ℕ → ℕ → ℕ → Bool
in_bundle bundles k c = eqb (get_or bundles c 0) (k + 1)

-- what bundle k costs agent i
unfoldable pub bundle_cost : Instance → ℕ → List ℕ → ℕ → ℕ
bundle_cost I i bundles k = sum_where I.m (in_bundle bundles k) (cost I i)

-- "the pile that costs them most": what it costs agent i
unfoldable pub costliest_bundle : Instance → ℕ → List ℕ → ℕ
costliest_bundle I i bundles = max_to I.n (bundle_cost I i bundles)

-- "That number is the least, over all splits into n piles, of the costliest pile."
unfoldable pub maximin_share : Instance → ℕ → ℕ
maximin_share I i = least_list I.n I.m (costliest_bundle I i)

-- "the pile that costs least so far", the first of several
unfoldable pub cheapest_bundle : Instance → ℕ → List ℕ → ℕ
cheapest_bundle I i bundles = chosen I.n (λ k. true) (λ j k. ltb (bundle_cost I i bundles j) (bundle_cost I i bundles k))

-- chore c, if it is to be dealt: "each to the pile that costs least so far"
unfoldable pub deal_chore : Instance → ℕ → ℕ → Bool → List ℕ → List ℕ
deal_chore I i c due bundles = cond due (set bundles c (cheapest_bundle I i bundles + 1)) bundles

-- those of the first k chores that are of one kind, dealt by number
unfoldable pub deal_kind : Instance → ℕ → (ℕ → Bool) → ℕ → List ℕ → List ℕ
deal_kind I i kind zero bundles = bundles
deal_kind I i kind (suc k) bundles = deal_chore I i k (kind k) (deal_kind I i kind k bundles)

-- "dealing reels, difficult ones first" for agent i, from chores that are in no bundle
unfoldable pub dealt : Instance → ℕ → List ℕ
dealt I i = deal_kind I i (I.easy i) I.m (deal_kind I i (λ c. not (I.easy i c)) I.m (replicate I.m 0))

-- "the numbers of all n people, in order of person"; "Here rows are taken as marked."
unfoldable pub measures_of : List ℕ → List ℕ
measures_of s = tabulate (agents_of s) (maximin_share (as_marked s))

-- Request 10: "nobody's reels cost more than that person's measure"
unfoldable pub within_measures : Instance → (ℕ → ℕ) → Bool
within_measures I x = all_below I.n (λ i. leb (cost_to I x i i) (maximin_share I i))
