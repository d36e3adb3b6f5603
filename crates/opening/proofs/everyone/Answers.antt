-- `opening::everyone` meets its contract.
use Rattle.std.proofs.Common.{ℕ, zero, suc, ◌+◌, ◌≡◌, ◌^◌, true, bit_or, refl, arith, rules, tests}
use Rattle.std.specs.List.{fold, range_with_len}
use Rattle.std.proofs.lemmas.Iterator.{YieldsList-from_range}
use Rattle.std.proofs.lemmas.Iterator.Consumers.{fold_from_yields_List}
use Rattle.finite.specs.Bits.{SetOf}
use Rattle.finite.proofs.Bits.{set_zero, set-take}
use Rattle.opening.proofs.everyone.Goals as goal

-- the numbers below k are in w, and n more follow
all_from : (k n w : ℕ) {m : ℕ} → k + n ≡ m → SetOf k w (λ i. true) → SetOf m (fold (λ v i. bit_or v (2 ^ i)) w (range_with_len k n)) (λ i. true)
all_from k zero w {m} e s = let same : m ≡ k = omega (arith, e) in rw same s
all_from k (suc n) w e s = all_from (k + 1) n (bit_or w (2 ^ k)) (omega (arith, e)) (set-take s refl)

pub returns : goal.returns
returns c =
    let n = c.args.n in
    rw (fold_from_yields_List _ (λ v i. bit_or v (2 ^ i)) _ _ c.fold.ensures.ran (YieldsList-from_range 0 n n refl (omega arith)) (λ a x b q k. search (rules, tests)))
    (all_from 0 n 0 (omega arith) (set_zero _))
