-- A list of owners, or of prices, is not turned down exactly when it has m entries from 1 to its limit.
-- Assumes nothing.
use Prim.Native.Nat.{ℕ}
use mathlib.Core.Bool.{not}
use mathlib.Core.List.{List}
use mathlib.Core.Path.{◌≡◌}
use lib.Dec.{eqb}
use lib.ListN.{length}
use borrow.Author.Tests.{eqb-true, eq-eqb, not-false}
use Rattle.finite.specs.Lists.{Picks}
use Rattle.finite.proofs.Tests.{or_none}
use Rattle.model.specs.Limits.{max_price}
use Rattle.model.specs.Fairness.{entries_in_range}
use Rattle.model.specs.Refusals.{◌or_else◌, owners_refusal, prices_refusal}
use Rattle.model.proofs.Allocations.{range_picks, picks_range}
use Rattle.sheet.proofs.OrElse.{when_none, peel}

pub owners_picks : {n m : ℕ} {owners : List ℕ} → owners_refusal n m owners ≡ 0 → Picks n m owners
unfolding owners_refusal
owners_picks {n} {m} {owners} e =
    let size = peel (not (eqb (length owners) m)) 5 _ e in
    range_picks (eqb-true (length owners) m (not-false _ size.0)) (not-false _ (when_none _ 6 size.1))

pub picks_owners : {n m : ℕ} {owners : List ℕ} → Picks n m owners → owners_refusal n m owners ≡ 0
unfolding owners_refusal ◌or_else◌
picks_owners {n} {m} {owners} p = rw (eq-eqb (length owners) m p.size, picks_range p)

pub prices_picks : {m : ℕ} {prices : List ℕ} → prices_refusal m prices ≡ 0 → Picks max_price m prices
unfolding prices_refusal
prices_picks {m} {prices} e =
    let both = or_none (not (eqb (length prices) m)) (not (entries_in_range max_price m prices)) (when_none _ 9 e) in
    range_picks (eqb-true (length prices) m (not-false _ both.0)) (not-false _ both.1)

pub picks_prices : {m : ℕ} {prices : List ℕ} → Picks max_price m prices → prices_refusal m prices ≡ 0
unfolding prices_refusal
picks_prices {m} {prices} p = rw (eq-eqb (length prices) m p.size, picks_range p)
