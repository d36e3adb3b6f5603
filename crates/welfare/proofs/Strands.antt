-- Where a list on the joined sheet isn't wasteful, neither strand's part of it is: a better part beside the other part makes a better whole.
-- Assumes nothing.
use Prim.Native.Nat.{ℕ, ◌+◌, ◌-◌, ◌≤◌, ◌<◌}
use mathlib.Core.Bool.{true, false, cond}
use mathlib.Core.List.{List}
use mathlib.Core.Path.{◌≡◌, sym, ap, ap₂, ◌∙◌}
use native.Mathlib.Nat.{add-sub_cancel_left}
use native.Mathlib.Omega.{arith}
use lib.Dec.{eqb, ltb}
use lib.ListN.{take, drop}
use lib.Seq.{get_or-take, get_or-drop}
use borrow.Author.Tests.{ltb-true, ltb-false, lt-ltb, le-ltb}
use Rattle.finite.specs.Sums.{sum_where}
use Rattle.finite.specs.Lists.{Picks}
use Rattle.finite.proofs.Tests.{clash, by_cond, cond_true, cond_false}
use Rattle.finite.proofs.Where.{where_cong, where_cut}
use Rattle.finite.proofs.Lists.{picks_take, picks_drop, list_none_intro}
use Rattle.model.specs.Instance.{Instance, cost, owner_of}
use Rattle.model.specs.Sheet.{marks_easy, as_marked}
use Rattle.model.specs.Strands.{joined_chores, joined_sheet}
use Rattle.model.specs.Fairness.{owns, total, cost_to, is_allocation, dominates, dominated}
use Rattle.model.specs.Algorithm.{State}
use Rattle.model.specs.Promises.{Demand3}
use Rattle.model.specs.Refusals.{strands_refusal}
use Rattle.model.proofs.Allocations.{allocation_picks, picks_allocation}
use Rattle.sheet.specs.Valid.{Joinable}
use Rattle.sheet.proofs.Strands.{joinable, joined-agents, joined-chores, joined_easy, joined_difficult, mark_first, mark_second}
use Rattle.welfare.specs.Strands.{PartsNotWasteful, PartsKept}
use Rattle.welfare.proofs.Domination.{Dominating, not-dominated}
use Rattle.welfare.proofs.Allocations.{picks_below, dominated_intro, undominated}

-- K has I's chores and then J's, at their costs, for the same agents
record Joins (I J K : Instance) : Type 0 where
  agents_first : K.n ≡ I.n
  agents_second : K.n ≡ J.n
  chores : K.m ≡ I.m + J.m
  costs_first : (i c : ℕ) → i < I.n → c < I.m → cost K i c ≡ cost I i c
  costs_second : (i c : ℕ) → i < J.n → c < J.m → cost K i (I.m + c) ≡ cost J i c

-- each chore goes to an agent
abbrev Allots : Instance → (ℕ → ℕ) → Type 0
Allots I x = (c : ℕ) → c < I.m → x c < I.n

-- x gives I's chores as y does, and J's, which follow them, as z does
record Parts (I J : Instance) (x y z : ℕ → ℕ) : Type 0 where
  first : (c : ℕ) → c < I.m → x c ≡ y c
  second : (c : ℕ) → c < J.m → x (I.m + c) ≡ z c

-- y for the first m chores, and z for those after them
unfoldable beside : ℕ → (ℕ → ℕ) → (ℕ → ℕ) → ℕ → ℕ
beside m y z c = cond (ltb c m) (y c) (z (c - m))

beside_parts : (I J : Instance) (y z : ℕ → ℕ) → Parts I J (beside I.m y z) y z
unfolding beside
beside_parts I J y z =
    record {
      first = λ c l. cond_true (y c) (z (c - I.m)) (lt-ltb c I.m l);
      second = λ c l. cond_false (y (I.m + c)) (z (I.m + c - I.m)) (le-ltb (I.m + c) I.m (omega arith)) ∙ ap z (add-sub_cancel_left I.m c);
    }

owner_parts : (I J : Instance) (owners : List ℕ) → Parts I J (owner_of owners) (owner_of (take I.m owners)) (owner_of (drop I.m owners))
unfolding owner_of
owner_parts I J owners =
    record {
      first = λ c l. ap (λ o. o - 1) (sym (get_or-take I.m owners c 0 l));
      second = λ c l. ap (λ o. o - 1) (sym (get_or-drop I.m owners c 0));
    }

-- if what dominates y makes something that dominates x, nothing dominates y where nothing dominates x
kept : {I K : Instance} {x y : ℕ → ℕ} → (Dominating I y → Dominating K x) → dominated K x ≡ false → dominated I y ≡ false
kept {I} {K} {x} {y} up e =
    undominated I y λ u range. not-dominated I u y λ better.
    clash (dominated_intro K x (up (record { list = u; range = range; better = better }))) e

module _ {I J K : Instance} (joins : Joins I J K) where
  -- an agent's cost is its cost of one part and of the other
  cost_parts : {x y z : ℕ → ℕ} → Parts I J x y z → (i : ℕ) → i < K.n → cost_to K x i i ≡ cost_to I y i i + cost_to J z i i
  unfolding cost_to total owns
  cost_parts {x} {y} {z} p i l =
      ap (λ m. sum_where m (owns x i) (cost K i)) joins.chores
      ∙ where_cut I.m J.m (owns x i) (cost K i)
      ∙ ap₂ ◌+◌
      (where_cong I.m (λ c h. ap (λ o. eqb o i) (p.first c h)) (λ c h _. joins.costs_first i c (omega arith) h))
      (where_cong J.m (λ c h. ap (λ o. eqb o i) (p.second c h)) (λ c h _. joins.costs_second i c (omega arith) h))

  beside_allots : (y z : ℕ → ℕ) → Allots I y → Allots J z → Allots K (beside I.m y z)
  unfolding beside
  beside_allots y z hy hz c l =
      by_cond (λ o. o < K.n) (ltb c I.m) (y c) (z (c - I.m))
      (λ e. omega (arith, hy c (ltb-true c I.m e)))
      (λ e. let h : c - I.m < J.m = omega (arith, ltb-false c I.m e) in omega (arith, hz (c - I.m) h))

  module _ {x y z : ℕ → ℕ} (p : Parts I J x y z) (hy : Allots I y) (hz : Allots J z) where
    -- parts that together cost no agent more, and one less, make a list that dominates the whole
    whole_dominating : (u v : ℕ → ℕ) → Allots I u → Allots J v → ((i : ℕ) → i < K.n → cost_to I u i i + cost_to J v i i ≤ cost_to I y i i + cost_to J z i i) → (who : ℕ) → who < K.n → cost_to I u who who + cost_to J v who who < cost_to I y who who + cost_to J z who who → Dominating K x
    whole_dominating u v hu hv none_more who l less =
        let q = beside_parts I J u v in
        record {
          list = beside I.m u v;
          range = beside_allots u v hu hv;
          better =
              record {
                none_more = λ i h. rw (cost_parts q i h, cost_parts p i h) (none_more i h);
                who = who;
                below = l;
                less = rw (cost_parts q who l, cost_parts p who l) less;
              };
        }

    first_kept_lem : dominated K x ≡ false → dominated I y ≡ false
    first_kept_lem =
        kept λ d.
        whole_dominating d.list z d.range hz (λ i l. omega (arith, d.better.none_more i (omega arith))) d.better.who (omega arith) (omega arith)

    second_kept_lem : dominated K x ≡ false → dominated J z ≡ false
    second_kept_lem =
        kept λ d.
        whole_dominating y d.list hy d.range (λ i l. omega (arith, d.better.none_more i (omega arith))) d.better.who (omega arith) (omega arith)

  module _ (owners : List ℕ) (allocation : is_allocation K owners ≡ true) where
    -- each part is a list of its own
    first_picks : Picks I.n I.m (take I.m owners)
    first_picks = picks_take I.m (omega arith) (rw joins.agents_first at (allocation_picks K owners allocation))

    second_picks : Picks J.n J.m (drop I.m owners)
    second_picks = picks_drop I.m joins.chores (rw joins.agents_second at (allocation_picks K owners allocation))

-- two strands that can be joined, and the sheet that they make
sheets_joined : {first second : List ℕ} → Joinable first second → Joins (as_marked first) (as_marked second) (as_marked (joined_sheet first second))
unfolding as_marked cost marks_easy joined_chores
sheets_joined fit =
    record {
      agents_first = joined-agents fit;
      agents_second = joined-agents fit ∙ fit.agents;
      chores = joined-chores fit;
      costs_first = λ i c l k. rw (mark_first fit i c l k, joined_easy fit, joined_difficult fit);
      costs_second = λ i c l k. rw (mark_second fit i c (omega (arith, fit.agents)) k, joined_easy fit, joined_difficult fit, fit.easy, fit.difficult);
    }

module _ {first second : List ℕ} (fit : Joinable first second) where
  parts_of : (owners : List ℕ) → is_allocation (as_marked (joined_sheet first second)) owners ≡ true → dominated (as_marked (joined_sheet first second)) (owner_of owners) ≡ false → PartsNotWasteful first second owners
  unfolding as_marked
  parts_of owners a e =
      let joins = sheets_joined fit in
      let p = owner_parts (as_marked first) (as_marked second) owners in
      let one = first_picks joins owners a in
      let two = second_picks joins owners a in
      record {
        first_part = picks_allocation (as_marked first) (take (as_marked first).m owners) one;
        first_kept = first_kept_lem joins p (picks_below one) (picks_below two) e;
        second_part = picks_allocation (as_marked second) (drop (as_marked first).m owners) two;
        second_kept = second_kept_lem joins p (picks_below one) (picks_below two) e;
      }

  -- no list dominates that of a share-out
  share_out_parts : (final : State) → Demand3 (joined_sheet first second) final → PartsNotWasteful first second final.owners
  unfolding dominated
  share_out_parts final d =
      let K = as_marked (joined_sheet first second) in
      parts_of final.owners d.allocation
      (list_none_intro K.n K.m (λ y. dominates K (owner_of y) (owner_of final.owners)) (λ y p. d.undominated y (picks_allocation K y p)))

-- document 02: "if a list on the joined sheet isn't wasteful, neither strand's part of it is wasteful on its own sheet"
pub parts_kept : (first second : List ℕ) → strands_refusal first second ≡ 0 → PartsKept first second
parts_kept first second z =
    let fit = joinable first second z in
    record { parts = parts_of fit; shared = share_out_parts fit }
