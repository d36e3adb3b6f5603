-- The price check on bytes, told from the price check on numbers.
-- Assumes nothing.
use Prim.Native.Nat.{ℕ, ◌*◌}
use mathlib.Core.Bool.{not}
use mathlib.Core.List.{List}
use mathlib.Core.Path.{◌≡◌, sym, ap, ◌∙◌}
use native.Mathlib.Omega.{arith}
use lib.Dec.{eqb}
use lib.ListN.{length}
use borrow.Author.Tests.{eqb-true, ne_eqb, not-false}
use Rattle.finite.proofs.Below.{by_same}
use Rattle.model.specs.Sheet.{agents_of, chores_of}
use Rattle.model.specs.Refusals.{◌or_else◌, sheet_refusal, owners_refusal, prices_refusal, price_refusal}
use Rattle.model.specs.Replies.{Reply, refused, accepted}
use Rattle.model.specs.Verdicts.{price_check}
use Rattle.model.specs.Promises.{HoldsFromOne}
use Rattle.sheet.proofs.OrElse.{or_else_first, or_else_zero, peel}
use Rattle.welfare.proofs.Answered.{unless_refused_lem, not_accepted}
use Rattle.welfare.proofs.AcceptedSheet.{accepted_holds}
use Rattle.pricebytes.specs.PriceBytes.{prices_in}
use Rattle.cmodel.specs.Numbers.{verdict_number}
use Rattle.cmodel.specs.Promises.{price_refusal_in_c, price_check_in_c, PricesCheckedInC}
use Rattle.cmodel.proofs.PriceChecks.{whole}
use Rattle.cmodel.proofs.Verdicts.{told_as}

module _ (s owners bytes : List ℕ) where
  -- other than 4 m bytes are always turned down
  module _ (odd : length bytes ≡ 4 * chores_of s → ⊥) where
    never_fine : price_refusal_in_c s owners bytes ≡ 0 → ⊥
    unfolding price_refusal_in_c
    never_fine e =
        let one = or_else_zero (sheet_refusal s) _ e in
        let two = or_else_zero (owners_refusal (agents_of s) (chores_of s) owners) _ one.1 in
        odd (eqb-true (length bytes) (4 * chores_of s) (not-false _ (peel (not (eqb (length bytes) (4 * chores_of s))) 9 _ two.1).0))

    odd_refused : price_check_in_c s owners bytes ≡ refused (price_refusal_in_c s owners bytes)
    unfolding price_check_in_c
    odd_refused = unless_refused_lem _ never_fine

    -- as any list of other than m prices is
    not_whole : (xs : List ℕ) → (length xs ≡ chores_of s → ⊥) → price_check s owners xs ≡ price_check_in_c s owners bytes
    unfolding price_refusal_in_c price_refusal prices_refusal price_check ◌or_else◌
    not_whole xs wrong =
        let same : price_refusal s owners xs ≡ price_refusal_in_c s owners bytes = rw (ne_eqb (length bytes) (4 * chores_of s) odd, ne_eqb (length xs) (chores_of s) wrong) in
        rw same (unless_refused_lem _ never_fine ∙ sym odd_refused)

  -- an accepted list holds
  holding : price_check_in_c s owners bytes ≡ accepted → HoldsFromOne s owners
  holding e =
      by_same (length bytes) (4 * chores_of s)
      (λ sized. accepted_holds s owners (prices_in bytes) (whole s owners bytes sized ∙ e))
      (λ odd. absurd (not_accepted _ (sym (odd_refused odd) ∙ e)))

  told : {r : ℕ} {reply : Reply} → r ≡ verdict_number reply → reply ≡ price_check_in_c s owners bytes → PricesCheckedInC s owners bytes r
  told is e = record { answer = told_as e is; holding = holding }

  -- a refused sheet decides by itself
  pub refused_sheet : {r : ℕ} → r ≡ sheet_refusal s → (r ≡ 0 → ⊥) → PricesCheckedInC s owners bytes r
  unfolding price_check_in_c price_refusal_in_c
  refused_sheet {r} e h =
      let first : price_refusal_in_c s owners bytes ≡ r = rw (← e) (or_else_first {a = r} _ h) in
      let all : price_check_in_c s owners bytes ≡ refused r = rw first (unless_refused_lem _ h) in
      told {reply = refused r} (omega arith) (sym all)

  -- the bytes of m prices are judged as those prices
  pub judged : {r : ℕ} {xs : List ℕ} {reply : Reply} → length bytes ≡ 4 * chores_of s → xs ≡ prices_in bytes → reply ≡ price_check s owners xs → r ≡ verdict_number reply → PricesCheckedInC s owners bytes r
  judged sized read e is =
      told is (e ∙ ap (price_check s owners) read ∙ whole s owners bytes sized)

  pub judged_odd : {r : ℕ} {reply : Reply} (xs : List ℕ) → (length bytes ≡ 4 * chores_of s → ⊥) → (length xs ≡ chores_of s → ⊥) → reply ≡ price_check s owners xs → r ≡ verdict_number reply → PricesCheckedInC s owners bytes r
  judged_odd xs odd wrong e is = told is (e ∙ not_whole odd xs wrong)
