-- Where the test for waste passes, a dominating list: the difficult chore goes to the connected agent, and along a shortest walk each hands
-- an easy chore on, until a burdened agent is relieved.
-- Assumes nothing.
use Prim.Native.Nat.{ℕ, zero, suc, ◌+◌, ◌≤◌, ◌<◌}
use mathlib.Core.Bool.{Bool, true, false, cond}
use mathlib.Core.Path.{◌≡◌, refl, sym, ap, ◌∙◌}
use native.Mathlib.Nat.{le_refl}
use native.Mathlib.Omega.{arith}
use lib.Dec.{eqb}
use borrow.Author.Tests.{ne_eqb}
use Rattle.finite.specs.Moves.{Moves}
use Rattle.finite.proofs.Tests.{clash, fails_of, eqb_same}
use Rattle.finite.proofs.Below.{by_same}
use Rattle.finite.proofs.Moves.{moved, moved_moves, moves_each}
use Rattle.model.specs.Instance.{Instance}
use Rattle.model.specs.Fairness.{cost_to}
use Rattle.welfare.specs.Waste.{connected, waste_test}
use Rattle.welfare.specs.Walk.{Walking}
use Rattle.welfare.proofs.Costs.{cost_easy, cost_difficult, cost_at_most, burden_intro, burden_elim, passes_intro, passes_elim}
use Rattle.welfare.proofs.Domination.{Better, Dominating}
use Rattle.welfare.proofs.Moves.{moves_cost}
use Rattle.welfare.proofs.Connected.{connected_zero, connected-burdened, connected_step, connected_mono, connected_added, connected_first, waste_elim}

-- relieved of b where charged with a: no more than before
relieved : (t : Bool) {y x a b : ℕ} → y + cond t b 0 ≡ x + cond t a 0 → a ≤ b → y ≤ x
relieved true e l = omega arith
relieved false e l = omega arith

-- relieved of b twice, where charged with a and with v
relieved_twice : (s t : Bool) (y : ℕ) {z x a b v : ℕ} → z + cond s b 0 ≡ y + cond t v 0 → y + cond t b 0 ≡ x + cond s a 0 → a ≤ b → v ≤ b → z ≤ x
relieved_twice true true y e f l k = omega arith
relieved_twice true false y e f l k = omega arith
relieved_twice false true y e f l k = omega arith
relieved_twice false false y e f l k = omega arith

module _ (I : Instance) (x : ℕ → ℕ) (c : ℕ) (below : c < I.m) (hard : I.easy (x c) c ≡ false) (owner : (d : ℕ) → d < I.m → x d < I.n) where
  pub start_apart : (j : ℕ) → I.easy j c ≡ true → x c ≡ j → ⊥
  start_apart j e q = clash e (rw q at hard)

  -- c goes to a connected agent that finds it easy
  pub walk_start : (z : ℕ → ℕ) (j t : ℕ) → j < I.n → I.easy j c ≡ true → connected I x t j ≡ true → ((s : ℕ) → s < t → connected I x s j ≡ false) → Moves I.m x z c (x c) j → Walking I x c z j t
  walk_start z j t l e reached nearest v =
      record {
        here = l;
        reached = reached;
        nearest = nearest;
        range = moves_each v (λ d o. o < I.n) l owner;
        kept = λ d k ne _. sym (v.rest d k ne);
        costs = moves_cost I v (cost_difficult I (x c) c hard) (cost_easy I j c e);
      }

  -- a chore of the current agent h is still h's, unless h is the owner of c
  pub walk_holds : {y : ℕ → ℕ} {h t : ℕ} (e : ℕ) → Walking I x c y h t → (h ≡ x c → ⊥) → e < I.m → x e ≡ h → y e ≡ h
  walk_holds e w ne k own =
      w.kept e k (λ q. ne (sym own ∙ ap x q)) (rw own w.reached) ∙ own

  -- the owner of c is burdened itself, so the walk meets it at its end at the earliest
  not_owner : {y : ℕ → ℕ} {h t : ℕ} → Walking I x c y h (suc t) → h ≡ x c → ⊥
  not_owner w q =
      clash (connected-burdened I x 0 (x c) (burden_intro I x (x c) c below refl hard)) (rw q at (w.nearest 0 (omega arith)))

  pub step_holds : {y : ℕ → ℕ} {h t : ℕ} (e : ℕ) → Walking I x c y h (suc t) → e < I.m → x e ≡ h → y e ≡ h
  step_holds e w k own = walk_holds e w (not_owner w) k own

  pub step_apart : {y : ℕ → ℕ} {h t : ℕ} (g : ℕ) → Walking I x c y h (suc t) → connected I x t g ≡ true → h ≡ g → ⊥
  step_apart {t = t} g w reached q = clash reached (rw q at (w.nearest t (le_refl _)))

  -- h hands an easy chore to an agent nearer to the burdened, who finds it easy too
  pub walk_step : (y z : ℕ → ℕ) (h t g e : ℕ) → Walking I x c y h (suc t) → g < I.n → connected I x t g ≡ true → e < I.m → x e ≡ h → I.easy h e ≡ true → I.easy g e ≡ true → Moves I.m y z e h g → Walking I x c z g t
  walk_step y z h t g e w l reached k own here there v =
      let pass = passes_intro I x h g e k own here there in
      let change = moves_cost I v (cost_easy I h e here) (cost_easy I g e there) in
      record {
        here = l;
        reached = reached;
        nearest = λ s less. fails_of (λ q. connected_step I x s h g l q pass) (w.nearest (suc s) (omega arith));
        range = moves_each v (λ d o. o < I.n) l w.range;
        kept = λ d kd ne q.
            by_same d e
            (λ same. absurd (clash q (rw (same, own) (w.nearest t (le_refl _)))))
            (λ other. sym (v.rest d kd other) ∙ w.kept d kd ne (connected_mono I x (omega arith) (x d) q));
        costs = λ i. omega (arith, w.costs i, change i);
      }

  module _ (lt : I.a < I.b) where
    -- the walk came to the owner of c, which has an easy chore in its place
    pub walk_back : (y : ℕ → ℕ) → Walking I x c y (x c) 0 → Better I y x
    walk_back y w =
        let here : cost_to I y (x c) (x c) + I.b ≡ cost_to I x (x c) (x c) + I.a = rw (eqb_same (x c)) at (w.costs (x c)) in
        record {
          none_more = λ i l. relieved (eqb (x c) i) (w.costs i) (omega arith);
          who = x c;
          below = w.here;
          less = omega arith;
        }

    -- it came to another burdened agent, which hands a difficult chore to the owner of c
    pub walk_end : (y z : ℕ → ℕ) (h f : ℕ) → Walking I x c y h 0 → (h ≡ x c → ⊥) → I.easy h f ≡ false → Moves I.m y z f h (x c) → Better I z x
    walk_end y z h f w ne difficult v =
        let change = moves_cost I v (cost_difficult I h f difficult) refl in
        let apart : eqb (x c) h ≡ false = ne_eqb (x c) h (λ q. ne (sym q)) in
        let here : cost_to I z h h + I.b ≡ cost_to I y h h + 0 = rw (eqb_same h, apart) at (change h) in
        let before : cost_to I y h h + 0 ≡ cost_to I x h h + I.a = rw (eqb_same h, apart) at (w.costs h) in
        record {
          none_more = λ i l.
              relieved_twice (eqb h i) (eqb (x c) i) (cost_to I y i i) (change i) (w.costs i) (omega arith) (cost_at_most I (x c) f (omega arith));
          who = h;
          below = w.here;
          less = omega arith;
        }

    walk_last : (y : ℕ → ℕ) (h : ℕ) → Walking I x c y h 0 → (h ≡ x c → ⊥) → Dominating I x
    walk_last y h w ne =
        let r = burden_elim I x h (sym (connected_zero I x h) ∙ w.reached) in
        let f = r.chore in
        let move = moved_moves y (x c) r.below (walk_holds f w ne r.below r.owner) ne in
        record {
          list = moved y f (x c);
          range = moves_each move (λ d o. o < I.n) (owner c below) w.range;
          better = walk_end y (moved y f (x c)) h f w ne r.difficult move;
        }

    -- from any point of the walk to its end
    pub walk_on : (t : ℕ) (y : ℕ → ℕ) (h : ℕ) → Walking I x c y h t → Dominating I x
    unfolding connected
    walk_on zero y h w =
        by_same h (x c) (λ q. record { list = y; range = w.range; better = walk_back y (rw q at w) }) (walk_last y h w)
    walk_on (suc t) y h w =
        let v = connected_added I x t h w.reached (w.nearest t (le_refl _)) in
        let g = v.next in
        let r = passes_elim I x h g v.linked in
        let e = r.chore in
        let move = moved_moves y g r.below (step_holds e w r.below r.owner) (step_apart g w v.reached) in
        walk_on t (moved y e g) g
        (walk_step y (moved y e g) h t g e w v.below v.reached r.below r.owner r.easy_here_lem r.easy_there_lem move)

-- a list that the test for waste picks out is dominated
pub waste_dominated : (I : Instance) (x : ℕ → ℕ) → I.a < I.b → ((c : ℕ) → c < I.m → x c < I.n) → waste_test I x ≡ true → Dominating I x
waste_dominated I x lt owner e =
    let w = waste_elim I x e in
    let c = w.chore in
    let j = w.taker in
    let f = connected_first I x I.n j w.taker_connected in
    let move = moved_moves x j w.below refl (start_apart I x c w.below w.difficult owner j w.taker_easy) in
    walk_on I x c w.below w.difficult owner lt _ (moved x c j) j
    (walk_start I x c w.below w.difficult owner (moved x c j) j _ w.taker_below w.taker_easy f.passes f.before move)
