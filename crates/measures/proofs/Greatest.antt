-- The greatest of a list's numbers, 0 where it has none: by a fold over them, and by their places.
-- Assumes nothing.
use Rattle.std.specs.Prelude.{ℕ, suc, ◌+◌, ◌≤◌, ◌≡◌, max, List, [], ◌∷◌, length, get_or, take}
use Rattle.std.proofs.Common.{arith, ap, ◌∙◌}
use Rattle.std.specs.List.{fold}
use Rattle.std.proofs.lemmas.List.{get_or-take, length-take-le}
use Rattle.finite.specs.Sums.{max_to}
use Rattle.finite.proofs.Extremes.{top_zero, top_next, top_add, top_cong}

abbrev entry : List ℕ → ℕ → ℕ
entry xs k = get_or xs k 0

top_cons : (x : ℕ) (xs : List ℕ) → max_to (length (x ∷ xs)) (entry (x ∷ xs)) ≡ max x (max_to (length xs) (entry xs))
top_cons x xs =
    let n = length xs in
    let f = entry (x ∷ xs) in
    let long : suc n ≡ 1 + n = omega arith in
    let rest : max_to n (λ i. f (1 + i)) ≡ max_to n (entry xs) = top_cong n (λ i l. let next : 1 + i ≡ suc i = omega arith in ap f next) in
    omega (arith, ap (λ k. max_to k f) long, top_add 1 n f, top_next 0 f, top_zero f, rest)

fold_top : (a : ℕ) (xs : List ℕ) → fold max a xs ≡ max a (max_to (length xs) (entry xs))
fold_top a [] = omega (arith, top_zero (entry []))
fold_top a (x ∷ xs) = omega (arith, fold_top (max a x) xs, top_cons x xs)

-- of a list's first n
pub front_top : {n : ℕ} (xs : List ℕ) → n ≤ length xs → fold max 0 (take n xs) ≡ max_to n (λ k. get_or xs k 0)
front_top {n} xs l =
    let front = take n xs in
    let whole : fold max 0 front ≡ max_to (length front) (entry front) = omega (arith, fold_top 0 front) in
    whole ∙ ap (λ k. max_to k (entry front)) (length-take-le n xs l) ∙ top_cong n (λ k below. get_or-take n xs k 0 below)
