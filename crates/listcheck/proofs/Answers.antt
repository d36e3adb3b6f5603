-- Laws of the list check: its refusals, its answers, and what it leaves in the lent list.
-- Assumes nothing.
use Prim.Native.Nat.{ℕ, ◌+◌, ◌≤◌}
use mathlib.Core.Bool.{true}
use mathlib.Core.List.{List}
use mathlib.Core.Path.{◌≡◌, refl, sym, ap, ◌∙◌}
use native.Mathlib.Omega.{arith}
use lib.ListN.{length}
use borrow.Author.Tests.{not-false}
use Rattle.finite.specs.Search.{any_below, first_below, if_below}
use Rattle.model.specs.Limits.{max_slack}
use Rattle.model.specs.Instance.{owner_of}
use Rattle.model.specs.Sheet.{agents_of, chores_of, as_marked}
use Rattle.model.specs.Slack.{even_up_to}
use Rattle.model.specs.Refusals.{◌or_else◌, lent_refusal, slack_refusal, list_refusal}
use Rattle.model.specs.RefusalNumbers.{refusal_number}
use Rattle.model.specs.Replies.{refused, holds, unfair, wasteful, list_reply}
use Rattle.model.specs.Verdicts.{envies, first_of_pair, second_of_pair, unless_refused, list_verdict, list_check}
use Rattle.model.specs.Promises.{Dominating, ListChecked}
use Rattle.std.specs.Prelude.{Option, Some, None, is_some, Result, Ok}
use Rattle.model.specs.declared.Refusal.{Refusal}
use Rattle.model.specs.declared.ListVerdict.{ListVerdict}
use Rattle.model.proofs.Refusing.{Left}
use Rattle.model.proofs.Pairs.{FirstPair, pair_found, pair_none_elim}
use Rattle.sheet.proofs.OrElse.{or_else_zero, or_else_none, or_else_assoc}
use Rattle.sheet.proofs.Refusal.{lent_room, slack_ok}
use Rattle.welfare.proofs.Slack.{even_intro}
use Rattle.welfare.proofs.Answered.{not_refused_lem, refused_told}
use Rattle.welfare.proofs.ListVerdict.{verdict_unfair, verdict_larger}
use Rattle.given.specs.Given.{given_refusal, Given}
use Rattle.given.proofs.Found.{found_is, found_none, found_first, any_found}
use Rattle.given.proofs.Given.{given}

-- a list check that is not turned down

module _ (s owners : List ℕ) (slack lent : ℕ) (fine : list_refusal s owners slack lent ≡ 0) where
  parts : (given_refusal s owners ≡ 0) × (lent_refusal (chores_of s) lent or_else slack_refusal slack ≡ 0)
  unfolding list_refusal
  parts = or_else_zero (given_refusal s owners) (lent_refusal (chores_of s) lent or_else slack_refusal slack) (or_else_assoc _ _ _ ∙ fine)

  pub fine_given : Given s owners
  fine_given = given parts.0

  lent_parts : (lent_refusal (chores_of s) lent ≡ 0) × (slack_refusal slack ≡ 0)
  lent_parts = or_else_zero (lent_refusal (chores_of s) lent) (slack_refusal slack) parts.1

  pub fine_room : chores_of s ≤ lent
  fine_room = lent_room lent_parts.0

  -- nor is one with any other slack that is within its limit
  fine_slack : (t : ℕ) → t ≤ max_slack → list_refusal s owners t lent ≡ 0
  unfolding list_refusal
  fine_slack t few =
      sym (or_else_assoc _ _ _) ∙ or_else_none parts.0 (or_else_none lent_parts.0 (slack_ok few))

-- the answer in each case

module _ (s owners : List ℕ) (slack lent : ℕ) where
  pub check_refused : {k : ℕ} → k ≡ list_refusal s owners slack lent → (k ≡ 0 → ⊥) → refused k ≡ list_check s owners slack lent
  unfolding list_check
  check_refused e h = refused_told _ e h

  pub check_judged : list_refusal s owners slack lent ≡ 0 → list_check s owners slack lent ≡ list_verdict slack (as_marked s) (owner_of owners)
  unfolding list_check unless_refused
  check_judged e = rw e

refused_holds : (k : ℕ) → refused k ≡ holds → ⊥
refused_holds k e = let z : ◌≡◌ {A = ℕ} 0 1 = cc in omega arith

pub refused_other : (k : ℕ) → refused k ≡ wasteful → ⊥
refused_other k e = let z : ◌≡◌ {A = ℕ} 0 1 = cc in omega arith

pub unfair_other : (i j : ℕ) → unfair i j ≡ wasteful → ⊥
unfair_other i j e = let z : ◌≡◌ {A = ℕ} 0 1 = cc in omega arith

pub holds_other : holds ≡ wasteful → ⊥
holds_other e = let z : ◌≡◌ {A = ℕ} 0 1 = cc in omega arith

-- "A list that holds at one slack holds at every larger slack"
holds_larger : (s owners : List ℕ) (slack lent : ℕ) → list_check s owners slack lent ≡ holds → (t : ℕ) → slack ≤ t → t ≤ max_slack → list_check s owners t lent ≡ holds
unfolding list_check
holds_larger s owners slack lent h t more few =
    let both = not_refused_lem (list_refusal s owners slack lent) (list_verdict slack (as_marked s) (owner_of owners)) refused_holds h in
    check_judged s owners t lent (fine_slack s owners slack lent both.0 t few) ∙ verdict_larger (as_marked s) (owner_of owners) slack t more both.1

module _ {s owners : List ℕ} {slack : ℕ} {lent : List ℕ} {r : Result ListVerdict Refusal} where
  -- every answer but one leaves the lent list as it is
  pub checked : list_reply r ≡ list_check s owners slack (length lent) → (list_reply r ≡ wasteful → ⊥) → ListChecked s owners slack lent lent r
  checked e other =
      record {
        answer = e;
        shown = λ q. absurd (other (e ∙ q));
        kept = λ _. refl;
        larger = λ h. holds_larger s owners slack (length lent) (sym e ∙ h);
      }

  pub not_checked : Left r (list_refusal s owners slack (length lent)) → ListChecked s owners slack lent lent r
  not_checked L =
      let some : refusal_number L.refusal ≡ 0 → ⊥ = λ z. omega (arith, z, L.positive, L.number) in
      checked (rw L.is (check_refused s owners slack (length lent) L.number some)) (rw L.is (refused_other _))

pub checked_wasteful : {s owners : List ℕ} {slack : ℕ} {lent lent' : List ℕ} → wasteful ≡ list_check s owners slack (length lent) → Dominating s owners lent lent' → ListChecked s owners slack lent lent' (Ok ListVerdict.Wasteful)
checked_wasteful e d = record { answer = e; shown = λ _. d; kept = λ h. absurd (h (sym e)); larger = λ h. absurd (holds_other (sym h)) }

module _ (s owners : List ℕ) (slack : ℕ) where
  -- the first pair that envies
  module _ {i : ℕ} (envier : Some i ≡ if_below (agents_of s) (first_of_pair (agents_of s) (envies slack (as_marked s) (owner_of owners)))) {o : Option ℕ} (envied : o ≡ if_below (agents_of s) (first_below (agents_of s) (envies slack (as_marked s) (owner_of owners) i))) where
    pub envied_some : is_some o ≡ true
    unfolding first_of_pair
    envied_some =
        let t = envies slack (as_marked s) (owner_of owners) in
        ap is_some envied ∙ any_found (agents_of s) (t i) ∙ (found_first (λ i. any_below (agents_of s) (λ j. t i j)) envier).passes

    pub envious_pair : {j : ℕ} → o ≡ Some j → FirstPair (agents_of s) (envies slack (as_marked s) (owner_of owners)) i j
    unfolding second_of_pair
    envious_pair e =
        let t = envies slack (as_marked s) (owner_of owners) in
        let first = found_is envier in
        rw ((found_is (sym e ∙ envied)).0, first.0) (pair_found (agents_of s) t first.1)

  pub even : None ≡ if_below (agents_of s) (first_of_pair (agents_of s) (envies slack (as_marked s) (owner_of owners))) → even_up_to slack (as_marked s) (owner_of owners) ≡ true
  unfolding as_marked envies
  even none =
      even_intro (as_marked s) (owner_of owners) slack
      (λ i j a b. not-false _ (pair_none_elim (agents_of s) (envies slack (as_marked s) (owner_of owners)) (found_none none) i j a b))

  pub unfair_verdict : {i j : ℕ} → FirstPair (agents_of s) (envies slack (as_marked s) (owner_of owners)) i j → list_verdict slack (as_marked s) (owner_of owners) ≡ unfair (i + 1) (j + 1)
  unfolding as_marked
  unfair_verdict f = verdict_unfair slack (as_marked s) (owner_of owners) f
