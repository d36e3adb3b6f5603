-- Laws of the walk, as the code takes it: each chore that is looked for is there, and the list at the end dominates.
-- Assumes nothing.
use Prim.Native.Nat.{ℕ, suc, ◌+◌, ◌-◌, ◌≤◌, ◌<◌}
use mathlib.Core.Bool.{true, false}
use mathlib.Core.List.{List, ◌++◌}
use mathlib.Core.Path.{◌≡◌, refl, sym, ap, ◌∙◌}
use native.Mathlib.Nat.{le_refl}
use native.Mathlib.Omega.{arith}
use lib.ListN.{length, get_or, set, take, drop, length-set}
use lib.Seq.{length-take-le, get_or-take, get_or-set_same, get_or-set_other, drop-set-lt}
use borrow.Author.Tests.{ltb-true, leb-true, le-leb}
use Rattle.std.specs.Prelude.{Option, Some, is_some}
use Rattle.std.proofs.lemmas.List.{get_or_append_left, length-append, length-drop}
use Rattle.std.proofs.lemmas.Slice.{drop-append-drop}
use Rattle.finite.specs.Search.{any_below, first_below, if_below, First}
use Rattle.finite.specs.Moves.{Moves}
use Rattle.finite.proofs.Tests.{clash}
use Rattle.finite.proofs.Below.{by_same, by_less}
use Rattle.finite.proofs.Search.{any_first, any_intro, first_passes}
use Rattle.finite.proofs.Moves.{moves_each}
use Rattle.model.specs.Instance.{owner_of}
use Rattle.model.specs.Sheet.{agents_of, chores_of, marks_easy, as_marked}
use Rattle.model.specs.Promises.{Dominating}
use Rattle.welfare.specs.Waste.{connected}
use Rattle.welfare.proofs.Costs.{passes_elim}
use Rattle.welfare.proofs.Domination.{Better, dominates_intro, dominates_cong}
use Rattle.model.proofs.Allocations.{picks_allocation}
use Rattle.welfare.proofs.Connected.{connected_zero, connected_added, connected_distance}
use Rattle.welfare.proofs.Moves.{set_moves}
use Rattle.welfare.proofs.Walk.{start_apart, walk_start, walk_holds, step_holds, step_apart, walk_step, walk_back, walk_end}
use Rattle.given.specs.Given.{Given}
use Rattle.given.specs.Burdens.{burdens}
use Rattle.given.proofs.Burdens.{burdens_elim, burdened_any}
use Rattle.waste.specs.Rings.{no_distance, Rings}
use Rattle.waste.specs.Tests.{takes, passable}
use Rattle.waste.specs.Walk.{Wasting, Away, HandedOn, Relieved, OnTheWay}
use Rattle.given.proofs.Found.{any_found, found_first}
use Rattle.given.proofs.Given.{owner_agent}
use Rattle.waste.proofs.Tests.{takes_hit, takes_elim, passable_intro, passable_elim}
use Rattle.waste.proofs.Rings.{rings_at_most, rings_reached, rings_nearest}

-- an agent away from the burdened can hand a chore on
module _ {s owners distances : List ℕ} {h : ℕ} (g : Given s owners) (rings : Rings (as_marked s) (owner_of owners) (agents_of s) distances) (away : Away s distances h) where
  passable_some : any_below (chores_of s) (passable s owners distances (get_or distances h 0) h) ≡ true
  unfolding as_marked connected
  passable_some =
      let I = as_marked s in
      let x = owner_of owners in
      let t = get_or distances h 0 - 1 in
      let top : get_or distances h 0 ≡ suc t = omega (arith, away.away) in
      let small : agents_of s < no_distance = omega (arith, g.valid.agents_fit) in
      let here : h < agents_of s = away.here in
      let v = connected_added I x t h (rw top at (rings_reached rings small h here away.has)) (rings_nearest rings small h here away.has t (omega (arith, top))) in
      let j = v.next in
      let r = passes_elim I x h j v.linked in
      let e = r.chore in
      let few : t ≤ agents_of s = omega (arith, rings_at_most rings small h here away.has) in
      let near : get_or distances j 0 ≤ t = leb-true (get_or distances j 0) t (rings.within t j few v.below ∙ v.reached) in
      let taker = any_intro (takes s distances (get_or distances h 0) e) j v.below (takes_hit s distances (get_or distances h 0) e j (omega (arith, top)) r.easy_there_lem) in
      any_intro (passable s owners distances (get_or distances h 0) h) e r.below (passable_intro s owners distances (get_or distances h 0) h e r.owner r.easy_here_lem taker)

  -- what the search for a chore answers: some chore e
  module _ {o : Option ℕ} (search : o ≡ if_below (chores_of s) (first_below (chores_of s) (passable s owners distances (get_or distances h 0) h))) where
    pub passed_some : is_some o ≡ true
    passed_some = ap is_some search ∙ any_found (chores_of s) (passable s owners distances (get_or distances h 0) h) ∙ passable_some

    module _ {e : ℕ} (first : o ≡ Some e) where
      passed_first : First (chores_of s) (passable s owners distances (get_or distances h 0) h) e
      passed_first = found_first (passable s owners distances (get_or distances h 0) h) (sym first ∙ search)

      pub passed_chore : e < chores_of s
      passed_chore = passed_first.below

      passed : (owner_of owners e ≡ h) × (marks_easy s h e ≡ true) × (any_below (agents_of s) (takes s distances (get_or distances h 0) e) ≡ true)
      passed = passable_elim s owners distances (get_or distances h 0) h e passed_first.passes

      -- and what the search for an agent that takes it does: some agent r
      module _ {q : Option ℕ} (taking : q ≡ if_below (agents_of s) (first_below (agents_of s) (takes s distances (get_or distances h 0) e))) where
        pub taker_some : is_some q ≡ true
        taker_some = ap is_some taking ∙ any_found (agents_of s) (takes s distances (get_or distances h 0) e) ∙ passed.2

        module _ {r : ℕ} (taker : q ≡ Some r) where
          taker_first : First (agents_of s) (takes s distances (get_or distances h 0) e) r
          taker_first = found_first (takes s distances (get_or distances h 0) e) (sym taker ∙ taking)

          pub passed_taker : r < agents_of s
          passed_taker = taker_first.below

          pub passed_on : (list : List ℕ) → HandedOn s owners distances list (set list e (r + 1)) h r
          passed_on list =
              let both = takes_elim s distances (get_or distances h 0) e r taker_first.passes in
              record {
                chore = e;
                below = passed_chore;
                mine = passed.0;
                easy_here = passed.1;
                easy_there = both.1;
                taker = passed_taker;
                nearer = both.0;
                written = refl;
              }

-- what the walk leaves: entries that are agents' numbers, better for some and worse for nobody, and the rest as it was
pub record Shown (s owners old new : List ℕ) : Type 0 where
  pub long : chores_of s ≤ length new
  pub positive : (d : ℕ) → d < chores_of s → 0 < get_or new d 0
  pub range : (d : ℕ) → d < (as_marked s).m → owner_of new d < (as_marked s).n
  pub better : Better (as_marked s) (owner_of new) (owner_of owners)
  pub kept : drop (chores_of s) new ≡ drop (chores_of s) old

pub shown_dominating : {s owners old new : List ℕ} → Shown s owners old new → Dominating s owners old new
unfolding as_marked owner_of
shown_dominating {s} {owners} {old} {new} w =
    let same : (c : ℕ) → c < chores_of s → owner_of (take (chores_of s) new) c ≡ owner_of new c = λ c l. ap (λ v. v - 1) (get_or-take (chores_of s) new c 0 l) in
    record {
      allocation = picks_allocation (as_marked s) (take (chores_of s) new) (record {
        size = length-take-le (chores_of s) new w.long;
        positive = λ c l. rw (get_or-take (chores_of s) new c 0 l) (w.positive c l);
        bounded = λ c l. rw (get_or-take (chores_of s) new c 0 l) (omega (arith, w.positive c l, w.range c l));
      });
      dominating = dominates_cong (as_marked s) (owner_of (take (chores_of s) new)) (owner_of new) (owner_of owners) same ∙ dominates_intro w.better;
      kept = w.kept;
    }

-- the walk

module _ {s owners distances : List ℕ} (g : Given s owners) (rings : Rings (as_marked s) (owner_of owners) (agents_of s) distances) where
  few : agents_of s < no_distance
  few = omega (arith, g.valid.agents_fit)

  agent : {i : ℕ} → i < agents_of s → i < (as_marked s).n
  unfolding as_marked
  agent l = l

  chore : {c : ℕ} → c < chores_of s → c < (as_marked s).m
  unfolding as_marked
  chore l = l

  module _ {c : ℕ} (below : c < chores_of s) (hard : marks_easy s (owner_of owners c) c ≡ false) where
    -- c has been handed to j, on a copy of the owners in front of the rest of the list
    pub way_start : {j : ℕ} {old : List ℕ} → Wasting s owners distances c j → chores_of s ≤ length old → OnTheWay s owners distances old (set (owners ++ drop (chores_of s) old) c (j + 1)) c j
    unfolding as_marked owner_of
    way_start {j} {old} w long =
        let mid = owners ++ drop (chores_of s) old in
        let entry : (d : ℕ) → d < chores_of s → get_or mid d 0 ≡ get_or owners d 0 = λ d l. get_or_append_left owners (drop (chores_of s) old) 0 d (omega (arith, g.size)) in
        let same : (d : ℕ) → d < chores_of s → owner_of mid d ≡ owner_of owners d = λ d l. ap (λ v. v - 1) (entry d l) in
        let size : length mid ≡ length old = simp (length-append, length-drop) (omega (arith, g.size)) in
        let h = set_moves mid c j (omega (arith, size)) below (same c below) (start_apart (as_marked s) (owner_of owners) c (chore below) hard (owner_agent g) j w.easy) in
        let move : Moves (chores_of s) (owner_of owners) (owner_of (set mid c (j + 1))) c (owner_of owners c) j =
        record {
          below = chore below;
          source = refl;
          target = h.target;
          apart = h.apart;
          rest = λ d l ne. sym (same d l) ∙ h.rest d l ne;
        } in
        record {
          walking =
              walk_start (as_marked s) (owner_of owners) c (chore below) hard (owner_agent g) (owner_of (set mid c (j + 1))) j (get_or distances j 0) (agent w.taker) w.easy (rings_reached rings few j (agent w.taker) w.has) (rings_nearest rings few j (agent w.taker) w.has) move;
          size = simp length-set size;
          long = simp length-set (omega (arith, size));
          positive = λ d l.
              by_same d c
              (λ q. rw (q, get_or-set_same mid c (j + 1) 0 (omega (arith, size))) (omega arith))
              (λ ne. rw (get_or-set_other mid c d (j + 1) 0 ne, entry d l) (g.positive d l));
          kept = drop-set-lt (chores_of s) mid c (j + 1) below ∙ drop-append-drop (chores_of s) old owners (chores_of s) (le_refl _) g.size;
        }

    module _ {old list : List ℕ} {h : ℕ} (w : OnTheWay s owners distances old list c h) where
      pub way_here : h < agents_of s
      unfolding as_marked
      way_here = w.walking.here

      pub way_has : get_or distances h 0 < no_distance
      unfolding as_marked
      way_has =
          omega (arith, few, connected_distance (as_marked s) (owner_of owners) (get_or distances h 0) h w.walking.here w.walking.reached w.walking.nearest)

      pub way_away : 0 < get_or distances h 0 → Away s distances h
      way_away l = record { here = way_here; has = way_has; away = l }

      -- a chore has been handed on
      pub way_next : {new : List ℕ} {r : ℕ} → HandedOn s owners distances list new h r → OnTheWay s owners distances old new c r
      unfolding as_marked
      way_next {new} {r} e =
          let I = as_marked s in
          let x = owner_of owners in
          let t = get_or distances h 0 - 1 in
          let top : get_or distances h 0 ≡ suc t = omega (arith, e.nearer) in
          let small : t ≤ agents_of s = omega (arith, rings_at_most rings few h (agent way_here) way_has) in
          let reached : connected I x t r ≡ true = sym (rings.within t r small (agent e.taker)) ∙ le-leb (get_or distances r 0) t (omega (arith, e.nearer, top)) in
          let way = rw top at w.walking in
          let mine = step_holds I x c (chore below) hard (owner_agent g) e.chore way (chore e.below) e.mine in
          let move = set_moves list e.chore r w.long e.below mine (step_apart I x c (chore below) hard (owner_agent g) r way reached) in
          let step =
          walk_step I x c (chore below) hard (owner_agent g) (owner_of list) (owner_of (set list e.chore (r + 1))) h t r e.chore way (agent e.taker) reached (chore e.below) e.mine e.easy_here e.easy_there move in
          let last : t ≡ get_or distances r 0 =
          by_less (get_or distances r 0) t
          (λ l. absurd (clash (rings_reached rings few r (agent e.taker) (omega (arith, e.nearer, way_has))) (step.nearest (get_or distances r 0) l)))
          (λ l. omega (arith, e.nearer, top)) in
          rw e.written (record {
            walking = rw last at step;
            size = simp length-set w.size;
            long = simp length-set w.long;
            positive = λ d l.
                by_same d e.chore
                (λ q. rw (q, get_or-set_same list e.chore (r + 1) 0 (omega (arith, e.below, w.long))) (omega arith))
                (λ ne. rw (get_or-set_other list e.chore d (r + 1) 0 ne) (w.positive d l));
            kept = drop-set-lt (chores_of s) list e.chore (r + 1) e.below ∙ w.kept;
          })

      -- the walk has come to a burdened agent
      module _ (arrived : get_or distances h 0 ≡ 0) where
        pub way_burden : first_below (chores_of s) (burdens s owners h) < chores_of s
        way_burden =
            ltb-true (first_below (chores_of s) (burdens s owners h)) (chores_of s)
            (sym (any_first (chores_of s) (burdens s owners h)) ∙ sym (burdened_any s owners h) ∙ sym (connected_zero (as_marked s) (owner_of owners) h) ∙ rw arrived at w.walking.reached)

        -- the owner of c itself has been relieved
        way_back : h ≡ owner_of owners c → Shown s owners old list
        unfolding as_marked
        way_back q =
            record {
              long = w.long;
              positive = w.positive;
              range = w.walking.range;
              better = walk_back (as_marked s) (owner_of owners) c (chore below) hard (owner_agent g) g.valid.easier (owner_of list) (rw (arrived, q) at w.walking);
              kept = w.kept;
            }

        -- another agent has handed a difficult chore to the owner of c
        way_handed : (h ≡ owner_of owners c → ⊥) → Shown s owners old (set list (first_below (chores_of s) (burdens s owners h)) (owner_of owners c + 1))
        unfolding as_marked
        way_handed ne =
            let f = first_below (chores_of s) (burdens s owners h) in
            let first = owner_of owners c in
            let both = burdens_elim s owners h f (first_passes (chores_of s) (burdens s owners h) way_burden) in
            let way = rw arrived at w.walking in
            let mine = walk_holds (as_marked s) (owner_of owners) c (chore below) hard (owner_agent g) f way ne (chore way_burden) both.0 in
            let move : Moves (chores_of s) (owner_of list) (owner_of (set list f (first + 1))) f h first =
            set_moves list f first (omega (arith, w.long)) (omega (arith, way_burden)) mine ne in
            record {
              long = simp length-set w.long;
              positive = λ d l.
                  by_same d f
                  (λ q. rw (q, get_or-set_same list f (first + 1) 0 (omega (arith, way_burden, w.long))) (omega arith))
                  (λ other. rw (get_or-set_other list f d (first + 1) 0 other) (w.positive d l));
              range = moves_each move (λ d o. o < agents_of s) (owner_agent g c (chore below)) w.walking.range;
              better =
                  walk_end (as_marked s) (owner_of owners) c (chore below) hard (owner_agent g) g.valid.easier (owner_of list) (owner_of (set list f (first + 1))) h f way ne both.1 move;
              kept = drop-set-lt (chores_of s) list f (first + 1) way_burden ∙ w.kept;
            }

        pub way_end : {i : ℕ} {new : List ℕ} → i ≡ owner_of owners c → Relieved s owners list new i h → Shown s owners old new
        way_end {i} e r =
            by_same h i (λ q. rw (r.back q) (way_back (q ∙ e)))
            (λ ne. rw (r.handed ne, e) (way_handed (λ q. ne (q ∙ sym e))))
