use Prim.Native.Nat.{ℕ, ◌+◌, ◌-◌, ◌<◌}
use mathlib.Core.List.{List}
use mathlib.Core.Path.{◌≡◌, ap, ◌∙◌}
use native.Mathlib.Nat.{add-zero, le-add_right}
use native.Mathlib.Omega.{arith}
use lib.ListN.{length, get_or, take, drop, length-take}
use Rattle.std.proofs.lemmas.List.{get_or-take, get_or-drop}
use Rattle.model.specs.Limits.{max_agents}
use Rattle.rings.proofs.InLine.{stands_none, stands_next}
use Rattle.rings.proofs.line.ring.Goals as goal

-- the places from `from` up to `to`, as the code takes them
abbrev places : List ℕ → ℕ → ℕ → List ℕ
places scratch from to = take (max_agents + to - (max_agents + from)) (drop (max_agents + from) scratch)

place_below : (scratch : List ℕ) (from to i : ℕ) → i < length (places scratch from to) → from + i < to
place_below scratch from to i l = omega (arith, rw length-take at l)

place_at : (scratch : List ℕ) (from to i : ℕ) → from + i < to → get_or (places scratch from to) i 0 ≡ get_or scratch (max_agents + (from + i)) 0
place_at scratch from to i l =
    let within : i < max_agents + to - (max_agents + from) = omega arith in
    get_or-take _ (drop (max_agents + from) scratch) i 0 within ∙ get_or-drop (max_agents + from) scratch i 0 ∙ ap (λ k. get_or scratch k 0) (omega arith)

pub loop-i-init : goal.loop-i-init
loop-i-init c = rw add-zero (stands_none _ _)

pub with-w-requires : goal.with-w-requires
with-w-requires c =
    let l = place_below c.args.scratch.now c.args.from c.args.to c.loop-i.i-index c.loop-i-test.true in
    omega (arith, place_at c.args.scratch.now c.args.from c.args.to c.loop-i.i-index l, c.requires.3 _ l, c.requires.0)

pub loop-i-preserved : goal.loop-i-preserved
loop-i-preserved c =
    let l = place_below c.args.scratch.now c.args.from c.args.to c.loop-i.i-index c.loop-i-test.true in
    let next : c.args.from + (c.loop-i.i-index + 1) ≡ c.args.from + c.loop-i.i-index + 1 = omega arith in
    rw (next, c.with-w.ensures, place_at c.args.scratch.now c.args.from c.args.to c.loop-i.i-index l)
    (stands_next c.args.scratch.now c.args.from (le-add_right _ _) (c.requires.3 _ l) c.loop-i.invariant)
