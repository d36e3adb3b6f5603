-- `pricecheck::first_off_price` meets its contract: the search tests what `Off` speaks of.
use Rattle.std.proofs.Common.{rules, tests, ℕ, ◌<◌, ◌≡◌, ◌∙◌, cond, ap}
use Rattle.std.proofs.lemmas.Iterator.{serves_from_Range}
use Rattle.finite.specs.Search.{if_below}
use Rattle.finite.proofs.Found.{found_in}
use Rattle.given.specs.Given.{Weighed}
use Rattle.given.proofs.Given.{given_owned, given_weighed}
use Rattle.model.specs.Instance.{owner_of}
use Rattle.model.specs.Sheet.{chores_of, is_difficult}
use Rattle.pricecheck.proofs.Off.{worth_less, owner_among, off_weighable, off_first}
use Rattle.pricecheck.proofs.first_off_price.Goals as goal
use Rattle.pricecheck.proofs.first_off_price.Goals.{After-greatest_worths-greatest}

weighed : (c : After-greatest_worths-greatest) → Weighed c.args.sheet.now c.easy_weight-a.result c.difficult_weight-b.result
weighed c = given_weighed c.requires.given c.easy_weight-a.ensures c.difficult_weight-b.ensures

pub find-requires-clause-callable : goal.find-requires-clause-callable
find-requires-clause-callable c =
    let owners = c.args.owners.now in
    let w = weighed (goal.at.find-requires-clause-callable c).After-greatest_worths-greatest in
    let owned = λ (x : ℕ) (l : x < chores_of c.args.sheet.now). given_owned c.requires.given x l in
    let among = λ (x : ℕ) (l : x < chores_of c.args.sheet.now) (i : ℕ) (o : i ≡ owner_of owners x). owner_among c.requires x l o in
    let weighs = λ (x : ℕ) (l : x < chores_of c.args.sheet.now) (i : ℕ) (o : i ≡ owner_of owners x) (mark : ℕ) (t : mark ≡ cond (is_difficult c.args.sheet.now i x) 1 0). off_weighable c.requires w x l o t in
    serves_from_Range (λ x q r. search (rules, tests)) (λ x lo hi. search (rules, owned, among, weighs))

pub returns-clause-is : goal.returns-clause-is
returns-clause-is c =
    let less = worth_less c.args.sheet.now c.args.owners.now c.args.prices.now c.easy_weight-a.result c.difficult_weight-b.result c.greatest_worths-greatest.result in
    rw (← c.chores.ensures.is) (found_in c.chores.result less _ _ c.find.result c.find.ensures.ran (λ x b q k. search (rules, tests)))
    ∙ ap (if_below (chores_of c.args.sheet.now)) (off_first c.requires (weighed (goal.at.returns-clause-is c).After-greatest_worths-greatest) c.greatest_worths-greatest.ensures)
