use mathlib.Core.Path.{refl}
use Rattle.finite.proofs.Tests.{clash}
use Rattle.waste.proofs.Shown.{dominated_search, wasted_chore, wasting_some, wasting}
use Rattle.waste.proofs.show_waste.Goals as goal

pub returns-in_default : goal.returns-in_default
returns-in_default c =
    record {
      answer = dominated_search c.requires.given c.find_distances-distances.ensures c.in_default.ensures;
      shown = λ q. absurd (clash q refl);
      kept = λ _. refl;
    }

pub first_taker-requires : goal.first_taker-requires
first_taker-requires c = wasted_chore c.requires.given c.find_distances-distances.ensures c.in-Some.ensures

pub unwrap-j-requires : goal.unwrap-j-requires
unwrap-j-requires c = wasting_some c.requires.given c.find_distances-distances.ensures c.in-Some.ensures c.first_taker.ensures

pub write_dominating-requires-clause-wasting : goal.write_dominating-requires-clause-wasting
write_dominating-requires-clause-wasting c = wasting c.requires.given c.find_distances-distances.ensures c.in-Some.ensures c.first_taker.ensures c.unwrap-j.ensures

pub returns : goal.returns
returns c =
    record {
      answer = dominated_search c.requires.given c.find_distances-distances.ensures c.in-Some.ensures;
      shown = λ _. c.write_dominating.ensures;
      kept = λ q. absurd (clash refl q);
    }
