-- Costs in units of the easy weight, of which the difficult weight and all measures are multiples.
-- Assumes nothing.
use Prim.Native.Nat.{ℕ, ◌*◌, ◌/◌, ◌≤◌, ◌<◌, ◌∣◌}
use mathlib.Core.Bool.{Bool, true, false, cond}
use mathlib.Core.List.{List}
use mathlib.Core.Path.{◌≡◌, refl, sym, ap, ◌∙◌}
use native.Mathlib.Nat.{le_trans, mul-one, mul-le-mul_left, le_of_mul-le-mul_left, mul-div_cancel', mul-div-mul_left, le-div_iff_mul-le, one-dvd}
use native.Mathlib.Omega.{arith}
use lib.ListN.{get_or}
use Rattle.finite.specs.Lists.{Picks}
use Rattle.finite.proofs.Sums.{sum_cong, sum_scale}
use Rattle.finite.proofs.Where.{where_cong, where_scale}
use Rattle.model.specs.Instance.{Instance, cost, owner_of}
use Rattle.model.specs.Sheet.{agents_of, easy_weight, as_marked}
use Rattle.model.specs.Fairness.{owns, total, cost_to}
use Rattle.model.specs.MaximinShare.{in_bundle, bundle_cost}
use Rattle.sheet.specs.Valid.{Valid}
use Rattle.measures.proofs.Shares.{share_bearable}
use Rattle.measures.proofs.Bearable.{whole_cost, Bearable, in_one}
use Rattle.quotas.specs.Quotas.{Bears}
use Rattle.placing.specs.Filling.{load, AllPlaced}
use Rattle.placing.specs.Queueing.{AllServed}
use Rattle.placing.specs.Sheets.{in_units, units_on, units_of, MeasuredSheet, Within}

-- a difficult chore costs some units
pub heavy : (s : List ℕ) → Valid s → 0 < (units_on s).b
unfolding as_marked
heavy s ok = (le-div_iff_mul-le ok.easy_positive).1 (omega (arith, ok.easier))

module _ (I : Instance) (positive : 0 < I.a) (divides : I.a ∣ I.b) where
  weight : I.a * (I.b / I.a) ≡ I.b
  weight = mul-div_cancel' I.a divides

  cost_units : (i c : ℕ) → cost I i c ≡ I.a * cost (in_units I) i c
  unfolding cost
  cost_units i c = each (I.easy i c)
    where
      each : (e : Bool) → cond e I.a I.b ≡ I.a * cond e 1 (I.b / I.a)
      each true = sym (mul-one I.a)
      each false = sym weight

  whole_units : (i : ℕ) → whole_cost I i ≡ I.a * whole_cost (in_units I) i
  whole_units i = sum_cong I.m (λ c l. cost_units i c) ∙ sum_scale I.m I.a (cost (in_units I) i)

  -- what an agent can bear, it can bear in units
  pub bearable_units : {i M : ℕ} → Bearable I i M → Bearable (in_units I) i (M / I.a)
  bearable_units {i} {M} B =
      let measure : I.a * (M / I.a) ≡ M = mul-div_cancel' I.a B.multiple in
      let scaled : I.a * whole_cost (in_units I) i ≤ I.a * (I.n * (M / I.a)) = omega (arith, whole_units i, B.costs, ap (λ v. I.n * v) measure) in
      let same : M / I.b ≡ M / I.a / (I.b / I.a) = ap (λ v. v / I.b) (sym measure) ∙ ap (λ w. I.a * (M / I.a) / w) (sym weight) ∙ mul-div-mul_left (M / I.a) (I.b / I.a) positive in
      record { costs = le_of_mul-le-mul_left scaled positive; difficult = rw (← same) B.difficult; multiple = one-dvd _ }

  -- and what its chores cost it
  pub cost_of_load : {y : List ℕ} → Picks I.n I.m y → (i : ℕ) → cost_to I (owner_of y) i i ≡ I.a * load (in_units I) y i
  unfolding cost_to total owns owner_of load bundle_cost
  cost_of_load {y} p i =
      where_cong I.m (λ c l. sym (in_one I i p i c l)) (λ c l _. cost_units i c)
      ∙ where_scale I.m I.a (in_bundle y i) (cost (in_units I) i)

  pub within_units : {y : List ℕ} {M : ℕ} (i : ℕ) → Picks I.n I.m y → I.a ∣ M → load (in_units I) y i ≤ M / I.a → cost_to I (owner_of y) i i ≤ M
  within_units {y} {M} i p multiple h = omega (arith, cost_of_load p i, mul-le-mul_left I.a h, mul-div_cancel' I.a multiple)

-- a sheet with its measures
module _ {s numbers : List ℕ} (ok : Valid s) (M : MeasuredSheet s numbers) where
  measure_bearable : (i : ℕ) → i < agents_of s → Bearable (as_marked s) i (get_or numbers i 0)
  unfolding as_marked
  measure_bearable i l =
      rw (M.each i l) (share_bearable (as_marked s) i ok.some_agent ok.easy_positive (omega (arith, ok.easier)) M.divides)

  pub bears : Bears (units_on s) (units_of (easy_weight s) numbers)
  unfolding as_marked
  bears =
      record {
        some = ok.some_agent;
        unit = refl;
        heavy = heavy s ok;
        each = λ k l. bearable_units (as_marked s) ok.easy_positive M.divides (measure_bearable k l);
      }

  pub within_all : {places owners owners' : List ℕ} → AllServed (units_on s) (units_of (easy_weight s) numbers) places owners → AllPlaced (units_on s) places owners owners' → Within s owners'
  unfolding as_marked
  within_all {places} {owners} {owners'} R P =
      record {
        picks = P.picks;
        each = λ i l.
            let units : load (units_on s) owners' i ≤ get_or numbers i 0 / easy_weight s = le_trans (P.each i l) (R.each i l) in
            rw (← M.each i l) (within_units (as_marked s) ok.easy_positive M.divides i P.picks (measure_bearable i l).multiple units);
      }
