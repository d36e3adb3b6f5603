use Prim.Native.Nat.{◌≤◌, ◌<◌}
use mathlib.Core.Path.{◌≡◌, sym, ◌∙◌}
use native.Mathlib.Omega.{arith}
use lib.ListN.{length}
use Rattle.model.specs.Limits.{max_agents}
use Rattle.model.specs.Instance.{owner_of}
use Rattle.model.specs.Sheet.{agents_of, as_marked}
use Rattle.model.specs.Verdicts.{envies}
use Rattle.model.specs.Refusals.{list_refusal}
use Rattle.model.proofs.Pairs.{FirstPair}
use Rattle.model.proofs.Refusing.{left}
use Rattle.welfare.proofs.ListVerdict.{verdict_wasteful, verdict_holds}
use Rattle.given.specs.Given.{Given}
use Rattle.given.proofs.Found.{found_is}
use Rattle.listcheck.proofs.Answers.{fine_given, fine_room, check_judged, not_checked, checked, checked_wasteful, unfair_other, holds_other, envied_some, envious_pair, even, unfair_verdict}
use Rattle.listcheck.proofs.check_list.Goals as goal
use Rattle.listcheck.proofs.check_list.Goals.{In_ok-sheet, After-unwrap-j}

-- what is known once the call is not turned down
fine : (c : In_ok-sheet) → list_refusal c.in_ok-sheet.sheet c.args.owners.now c.args.slack (length c.args.dominating.now) ≡ 0
fine c = rw c.in_ok-sheet.ensures.same (sym c.in_ok-sheet.ensures.number)

known : (c : In_ok-sheet) → Given c.in_ok-sheet.sheet c.args.owners.now
known c = fine_given _ _ _ _ (fine c)

pub returns-in_err-sheet : goal.returns-in_err-sheet
returns-in_err-sheet c = not_checked (left c.from_residual.result _ c.from_residual.ensures.1 c.in_err-sheet.ensures.number)

pub first_envier-requires : goal.first_envier-requires
first_envier-requires c = known (goal.at.first_envier-requires c).In_ok-sheet

pub first_envied-requires : goal.first_envied-requires
first_envied-requires c =
    let found = found_is c.in-Some.ensures in
    record { given = known (goal.at.first_envied-requires c).In_ok-sheet; i_bound = omega arith }

pub unwrap-j-requires : goal.unwrap-j-requires
unwrap-j-requires c = envied_some _ _ _ c.in-Some.ensures c.first_envied.ensures

-- the pair found
pair : (c : After-unwrap-j) → FirstPair (agents_of c.in_ok-sheet.sheet) (envies c.args.slack (as_marked c.in_ok-sheet.sheet) (owner_of c.args.owners.now)) c.in-Some.i c.unwrap-j.result
pair c = envious_pair _ _ _ c.in-Some.ensures c.first_envied.ensures c.unwrap-j.ensures

few : (c : After-unwrap-j) → agents_of c.in_ok-sheet.sheet ≤ max_agents → (c.in-Some.i < max_agents) × (c.unwrap-j.result < max_agents)
few c fit = let p = pair c in (omega (arith, p.left), omega (arith, p.right))

pub overflow_add-result : goal.overflow_add-result
overflow_add-result c = let both = few c (known (goal.at.overflow_add-result c).In_ok-sheet).valid.agents_fit in omega arith

pub overflow_cast-result : goal.overflow_cast-result
overflow_cast-result c = let both = few c (known (goal.at.overflow_cast-result c).In_ok-sheet).valid.agents_fit in omega arith

pub overflow_add-result-in-Some : goal.overflow_add-result-in-Some
overflow_add-result-in-Some c = let both = few c (known (goal.at.overflow_add-result-in-Some c).In_ok-sheet).valid.agents_fit in omega arith

pub overflow_cast-result-in-Some : goal.overflow_cast-result-in-Some
overflow_cast-result-in-Some c = let both = few c (known (goal.at.overflow_cast-result-in-Some c).In_ok-sheet).valid.agents_fit in omega arith

pub returns-in-Some : goal.returns-in-Some
returns-in-Some c =
    rw (← c.in_ok-sheet.ensures.same)
    (checked (sym (check_judged _ _ _ _ (fine (goal.at.returns-in-Some c).In_ok-sheet) ∙ unfair_verdict _ _ _ (pair c))) (unfair_other _ _))

pub show_waste-requires : goal.show_waste-requires
show_waste-requires c =
    let at = (goal.at.show_waste-requires c).In_ok-sheet in
    record { given = known at; room = fine_room _ _ _ _ (fine at) }

pub returns-then-show_waste : goal.returns-then-show_waste
returns-then-show_waste c =
    let judged = check_judged _ _ _ _ (fine (goal.at.returns-then-show_waste c).In_ok-sheet) in
    let balanced = even _ _ _ c.in_default.ensures in
    let shown = c.show_waste.ensures in
    rw (← c.in_ok-sheet.ensures.same)
    (checked_wasteful (sym (judged ∙ verdict_wasteful _ _ _ balanced (sym shown.answer ∙ c.if-show_waste.true))) (shown.shown c.if-show_waste.true))

pub returns : goal.returns
returns c =
    let judged = check_judged _ _ _ _ (fine (goal.at.returns c).In_ok-sheet) in
    let balanced = even _ _ _ c.in_default.ensures in
    let shown = c.show_waste.ensures in
    rw (← c.in_ok-sheet.ensures.same, shown.kept c.if-show_waste.false)
    (checked (sym (judged ∙ verdict_holds _ _ _ balanced (sym shown.answer ∙ c.if-show_waste.false))) holds_other)
