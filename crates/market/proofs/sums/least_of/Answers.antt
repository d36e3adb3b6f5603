-- `market::sums::least_of` meets its contract.
use Rattle.std.proofs.Common.{ℕ, zero, suc, ◌+◌, ◌<◌, ◌≤◌, ◌≡◌, List, [], ◌∷◌, Some, min, length, get_or, take, sym, ap, ◌∙◌, add-one, arith}
use Rattle.std.specs.List.{fold, reduce}
use Rattle.std.proofs.lemmas.List.Sums.{fold_more}
use Rattle.std.proofs.lemmas.Iterator.{YieldsList-from_slice}
use Rattle.std.proofs.lemmas.Iterator.Adapters.{option_map_id}
use Rattle.std.proofs.lemmas.Iterator.Consumers.{YieldsList-at, YieldsList-from_copied, min_from_yields_List}
use Rattle.finite.specs.Sums.{min_to}
use Rattle.finite.proofs.Extremes.{low_one, low_next}
use Rattle.market.proofs.sums.least_of.Goals as goal

-- the least of the first k + 1 numbers of a list
least : (x : ℕ) (xs : List ℕ) (k : ℕ) → k ≤ length xs → fold min x (take k xs) ≡ min_to (k + 1) (λ i. get_or (x ∷ xs) i 0)
least x xs zero l = sym (low_one (λ i. get_or (x ∷ xs) i 0))
least x xs (suc k) l =
    let f : ℕ → ℕ = λ i. get_or (x ∷ xs) i 0 in
    rw (← add-one k) (fold_more min x xs k 0 l ∙ ap (λ m. min m (get_or xs k 0)) (least x xs k (omega arith)) ∙ rw (add-one k) (sym (low_next {k = suc k} f (omega arith))))

reduced : (n : ℕ) (xs : List ℕ) → 0 < n → n ≤ length xs → reduce min (take n xs) ≡ Some (min_to n (λ i. get_or xs i 0))
reduced zero xs some l = absurd (let e : ⊥ = omega arith in e)
reduced (suc k) [] some l = absurd (let e : ⊥ = omega arith in e)
reduced (suc k) (x ∷ xs) some l = ap Some (rw add-one at (least x xs k (omega arith)))

pub returns : goal.returns
returns c =
    let made = sym (option_map_id _) ∙ min_from_yields_List c.copied.result _ c.min.ensures.ran (YieldsList-from_copied (YieldsList-at c.copied.ensures.source (YieldsList-from_slice (take c.args.n c.args.sums.now) c.iter.ensures.rest))) in
    let is = sym c.unwrap.ensures ∙ made ∙ reduced c.args.n c.args.sums.now c.requires.0 c.requires.1 in
    cc
