-- An accepted list holds: the price check and the list check of the same sheet and owner list.
-- Assumes nothing.
use Prim.Native.Nat.{ℕ, ◌<◌}
use mathlib.Core.Bool.{true, false}
use mathlib.Core.List.{List}
use mathlib.Core.Path.{◌≡◌}
use Rattle.model.specs.Instance.{owner_of, price_of}
use Rattle.model.specs.Sheet.{agents_of, chores_of, as_marked}
use Rattle.model.specs.Fairness.{ef1, is_allocation, dominates, dominated}
use Rattle.model.specs.Slack.{even_up_to}
use Rattle.model.specs.Refusals.{sheet_refusal, owners_refusal, prices_refusal, ◌or_else◌, price_refusal, list_refusal}
use Rattle.model.specs.Replies.{accepted}
use Rattle.model.specs.Verdicts.{unless_refused, price_verdict, list_check, price_check}
use Rattle.model.specs.Promises.{HoldsFromOne}
use Rattle.welfare.proofs.Costs.{marked_weighted}
use Rattle.welfare.proofs.Slack.{even_from_one}
use Rattle.welfare.proofs.Answered.{not_refused_lem, not_accepted}
use Rattle.welfare.proofs.Accepted.{Bought, bought_efficient, bought_even}
use Rattle.welfare.proofs.PriceVerdict.{Priced, accepted_elim, accepted_intro}
use Rattle.welfare.proofs.ListVerdict.{verdict_holds}
use Rattle.welfare.proofs.Allocations.{picks_below, allocation_below, undominated}
use Rattle.sheet.proofs.OrElse.{or_else_zero, or_else_none}
use Rattle.sheet.proofs.Judged.{owners_picks, prices_picks}
use Rattle.sheet.proofs.Refusal.{valid, lent_ok, slack_ok}

-- what an accepted list was given
pub record AcceptedList (s owners prices : List ℕ) : Type 0 where
  pub sheet-ok : sheet_refusal s ≡ 0
  pub owners_fit_lem : owners_refusal (agents_of s) (chores_of s) owners ≡ 0
  pub prices_fit_lem : prices_refusal (chores_of s) prices ≡ 0
  pub priced : Priced (as_marked s) (owner_of owners) (price_of prices)

pub accepted_list : (s owners prices : List ℕ) → price_check s owners prices ≡ accepted → AcceptedList s owners prices
unfolding price_check price_refusal
accepted_list s owners prices e =
    let both = not_refused_lem (price_refusal s owners prices) (price_verdict (as_marked s) (owner_of owners) (price_of prices)) not_accepted e in
    let one = or_else_zero (sheet_refusal s) (owners_refusal (agents_of s) (chores_of s) owners or_else prices_refusal (chores_of s) prices) both.0 in
    let two = or_else_zero (owners_refusal (agents_of s) (chores_of s) owners) (prices_refusal (chores_of s) prices) one.1 in
    record {
      sheet-ok = one.0;
      owners_fit_lem = two.0;
      prices_fit_lem = two.1;
      priced = accepted_elim (as_marked s) (owner_of owners) (price_of prices) both.1;
    }

-- and what is given all that is accepted
pub accepted_check : {s owners prices : List ℕ} → AcceptedList s owners prices → price_check s owners prices ≡ accepted
unfolding price_check price_refusal unless_refused
accepted_check {s} {owners} {prices} a =
    rw (or_else_none a.sheet-ok (or_else_none a.owners_fit_lem a.prices_fit_lem)) (accepted_intro (as_marked s) (owner_of owners) (price_of prices) a.priced)

module _ (s owners prices : List ℕ) (a : AcceptedList s owners prices) where
  bought : Bought (as_marked s) (owner_of owners) (price_of prices)
  unfolding as_marked price_of
  bought =
      record {
        owner = picks_below (owners_picks a.owners_fit_lem);
        priced = (prices_picks a.prices_fit_lem).positive;
        best_owned = a.priced.best_owned;
      }

  pub accepted_even : ef1 (as_marked s) (owner_of owners) ≡ true
  accepted_even = bought_even (as_marked s) (owner_of owners) (price_of prices) bought a.priced.no_envy

  -- no allocation at all dominates, be it given as a list or as a function
  pub accepted_undominated : (y : ℕ → ℕ) → ((c : ℕ) → c < (as_marked s).m → y c < (as_marked s).n) → dominates (as_marked s) y (owner_of owners) ≡ false
  accepted_undominated = bought_efficient (as_marked s) (owner_of owners) (price_of prices) bought (marked_weighted (valid s a.sheet-ok))

  pub accepted_not_wasteful : dominated (as_marked s) (owner_of owners) ≡ false
  accepted_not_wasteful = undominated (as_marked s) (owner_of owners) accepted_undominated

-- an accepted list is even, and no list of m owners from 1 to n dominates it
pub accepted_fair : (s owners prices : List ℕ) → price_check s owners prices ≡ accepted → (ef1 (as_marked s) (owner_of owners) ≡ true) × ((y : List ℕ) → is_allocation (as_marked s) y ≡ true → dominates (as_marked s) (owner_of y) (owner_of owners) ≡ false)
accepted_fair s owners prices e =
    let a = accepted_list s owners prices e in
    (accepted_even s owners prices a, λ y h. accepted_undominated s owners prices a (owner_of y) (allocation_below (as_marked s) y h))

-- so the list check answers `holds` at every slack of 1 and above
pub accepted_holds : (s owners prices : List ℕ) → price_check s owners prices ≡ accepted → HoldsFromOne s owners
unfolding list_check list_refusal unless_refused
accepted_holds s owners prices e =
    let a = accepted_list s owners prices e in
    let even : (t : ℕ) → 0 < t → even_up_to t (as_marked s) (owner_of owners) ≡ true = even_from_one (as_marked s) (owner_of owners) (accepted_even s owners prices a) in
    record {
      even = even;
      passes = λ t lent some few l.
          rw (or_else_none a.sheet-ok (or_else_none a.owners_fit_lem (or_else_none (lent_ok {needed = chores_of s} {lent = lent} l) (slack_ok few))))
          (verdict_holds t (as_marked s) (owner_of owners) (even t some) (accepted_not_wasteful s owners prices a));
    }
