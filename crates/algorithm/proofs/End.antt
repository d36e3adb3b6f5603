-- The end of a run: the core invariant, and no price-one above any sum, pass the price check.
-- Assumes nothing.
use Prim.Native.Nat.{ℕ, ◌*◌, ◌≤◌, ◌<◌}
use mathlib.Core.Bool.{Bool, true}
use mathlib.Core.List.{List}
use mathlib.Core.Path.{◌≡◌, ◌∙◌}
use native.Mathlib.Nat.{mul-le-mul}
use native.Mathlib.Omega.{arith}
use lib.ListN.{length}
use Rattle.finite.specs.Lists.{Picks}
use Rattle.model.specs.Instance.{owner_of, price_of}
use Rattle.model.specs.Limits.{max_weight, max_price}
use Rattle.model.specs.Sheet.{chores_of, difficult_weight, as_marked, as_read}
use Rattle.model.specs.Prices.{best, price_sum, price_up_to_one}
use Rattle.model.specs.Refusals.{sheet_refusal}
use Rattle.model.specs.Replies.{accepted}
use Rattle.model.specs.Verdicts.{price_check}
use Rattle.sheet.proofs.Judged.{picks_owners, picks_prices}
use Rattle.sheet.proofs.Refusal.{valid}
use Rattle.welfare.proofs.AcceptedSheet.{accepted_check}
use Rattle.welfare.proofs.Reading.{best_same}
use Rattle.algorithm.specs.Core.{Core}
use Rattle.algorithm.proofs.Best.{owner_best, price_positive, price_bound}
use Rattle.algorithm.proofs.Reading.{sheet_sound}

module _ (s owners prices : List ℕ) {group : ℕ → ℕ} {cut : ℕ → Bool} (passed : sheet_refusal s ≡ 0) (K : Core (as_read s) (owner_of owners) (price_of prices) group cut) where
  prices_picks : length prices ≡ chores_of s → Picks max_price (chores_of s) prices
  unfolding as_read price_of
  prices_picks size =
      let S = sheet_sound s passed in
      let fits = (valid s passed).weight_fits in
      let square : difficult_weight s * difficult_weight s ≤ max_weight * max_weight = mul-le-mul fits fits in
      record { size = size; positive = price_positive S K; bounded = λ c h. omega (arith, price_bound S K c h) }

  -- the core invariant is over the row reading, the check over the marks
  best_marked : (c : ℕ) → c < chores_of s → best (as_marked s) (price_of prices) (owner_of owners c) c ≡ true
  unfolding as_read
  best_marked c h = best_same (valid s passed) (owner_of owners c) (price_of prices) c h ∙ owner_best (sheet_sound s passed) K c h

  -- the lists of owner numbers and prices get the answer `accepted`
  pub check_accepted : Picks (as_read s).n (as_read s).m owners → length prices ≡ (as_read s).m → ((i j : ℕ) → i < (as_read s).n → j < (as_read s).n → price_up_to_one (as_read s).m (owner_of owners) (price_of prices) i ≤ price_sum (as_read s).m (owner_of owners) (price_of prices) j) → price_check s owners prices ≡ accepted
  unfolding as_read as_marked
  check_accepted o size even =
      accepted_check
      (record {
        sheet-ok = passed;
        owners_fit_lem = picks_owners o;
        prices_fit_lem = picks_prices (prices_picks size);
        priced = record { best_owned = best_marked; no_envy = λ i j hi hj h. even i j hi hj };
      })
