-- `placing::next_agent` meets its contract: of those who wait, one whose number is the least.
use Rattle.std.proofs.Common.{rules, tests, ℕ, ◌≡◌, ◌<◌, Bool, true, false, List, Option, Some, None, MatchOption, get_or}
use Rattle.std.specs.Ordering.{nat_cmp, is_lt}
use Rattle.std.proofs.lemmas.Map.Keys.{ge_from_not_lt}
use Rattle.placing.specs.Queueing.{waits, NextAgent}
use Rattle.placing.proofs.Picking.{picked_in}
use Rattle.placing.proofs.next_agent.Goals as goal

next : (n : ℕ) (counts : List ℕ) (waiting : List Bool) (r : Option ℕ) → MatchOption r ((k : ℕ) → k < n → waits waiting k ≡ false) (λ j. (j < n) × (waits waiting j ≡ true) × ((k : ℕ) → k < n → waits waiting k ≡ true → is_lt (nat_cmp (get_or counts k 0) (get_or counts j 0)) ≡ false)) → MatchOption r ((k : ℕ) → k < n → waits waiting k ≡ false) (λ j. NextAgent n counts waiting j)
next n counts waiting None nobody = nobody
next n counts waiting (Some j) told = record { agent = told.0; waiting = told.1; fewest = λ k l w. ge_from_not_lt _ _ (told.2 k l w) }

pub returns : goal.returns
unfolding waits
returns c =
    next _ _ _ c.min_by_key.result (picked_in is_lt nat_cmp (waits c.args.waiting.now) (λ k. get_or c.args.counts.now k 0) _ _ _ c.min_by_key.result c.filter.ensures.runs c.min_by_key.ensures.runs (λ x b q k. search (rules, tests)) (λ x k q d. search (rules, tests)))
