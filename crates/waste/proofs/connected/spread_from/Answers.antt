use Prim.Native.Nat.{ℕ, ◌<◌}
use mathlib.Core.Path.{◌≡◌, sym, ◌∙◌}
use mathlib.Core.Bool.{false}
use native.Mathlib.Omega.{arith}
use Rattle.finite.proofs.Search.{any_zero}
use Rattle.model.specs.Limits.{max_agents}
use Rattle.model.specs.Sheet.{agents_of, chores_of}
use Rattle.waste.specs.Rings.{Spread}
use Rattle.waste.specs.Tests.{shares}
use Rattle.given.proofs.Given.{owner_below}
use Rattle.waste.proofs.Tests.{shares_other, shares_mine, passes_shares}
use Rattle.waste.proofs.Rings.{spread_none, spread_cong, spread_next, spread_kept, spread_unlinked, spread_given}
use Rattle.waste.proofs.connected.spread_from.Goals as goal
use Rattle.waste.proofs.connected.spread_from.Goals.{After-owner-i, then-distances-i+then-easy_for_both, else-distances-i, else-distances-i-via-then-distances-i+else-easy_for_both, else-distances-i-via-else-distances-i}

chore : (c : After-owner-i) → c.loop-c.c < chores_of c.args.sheet.now
chore c = omega (arith, c.chores-c-end.ensures.is)

-- the chore's owner is one of the sheet's agents, of whom there are few
agent : (c : After-owner-i) → c.owner-i.result < agents_of c.args.sheet.now
agent c = rw c.owner-i.ensures.is (owner_below c.requires.given _ (chore c))

few : (c : After-owner-i) → c.owner-i.result < max_agents
few c = omega (arith, agent c, c.requires.given.valid.agents_fit)

pub loop-c-init : goal.loop-c-init
loop-c-init c = spread_none c.requires.distances_len (λ i l. any_zero _)

pub bounds-distances-i : goal.bounds-distances-i
bounds-distances-i c = few (goal.at.bounds-distances-i c).After-owner-i

pub easy_for_both-requires : goal.easy_for_both-requires
easy_for_both-requires c =
    let at = (goal.at.easy_for_both-requires c).After-owner-i in
    record { agents = (agent at, c.requires.j_bound); chore = chore at }

pub loop-c-preserved : goal.loop-c-preserved
loop-c-preserved c =
    let a = c.args in
    let i = c.owner-i.result in
    let is = c.owner-i.ensures.is in
    let d = c.loop-c.c in
    let size = c.loop-c.invariant.size in
    let test = shares a.sheet.now a.owners.now a.j in
    let others : (k : ℕ) → (k ≡ i → ⊥) → test k d ≡ false = λ k ne. shares_other a.sheet.now a.owners.now a.j k d (λ q. ne (sym q ∙ sym is)) in
    let chore : Spread (agents_of a.sheet.now) a.next (λ k. test k d) c.loop-c.distances c.if-distances-i.distances =
    elim c.if-distances-i.branch [
      | then-distances-i+then-easy_for_both w ↦ rw w.distances-is (spread_given size i others (few (goal.at.loop-c-preserved c).After-owner-i) w.if-distances-i.true (shares_mine _ _ _ _ _ (sym is) w.easy_for_both.ensures w.if-easy_for_both.true))
      | else-distances-i w ↦ rw w.distances-is (elim w.else-distances-i.branch [
        | else-distances-i-via-then-distances-i+else-easy_for_both v ↦ spread_unlinked size i others (shares_mine _ _ _ _ _ (sym is) v.easy_for_both.ensures v.if-easy_for_both.false)
        | else-distances-i-via-else-distances-i v ↦ spread_kept size i others v.if-distances-i.false
      ])
    ] in
    spread_next (λ e. omega (arith, c.requires.next_lt_no_distance)) (λ k. test k) c.loop-c.invariant chore

pub returns : goal.returns
returns c =
    let done : c.loop-c.c ≡ chores_of c.args.sheet.now = omega (arith, c.chores-c-end.ensures.is) in
    spread_cong (λ i l. passes_shares _ _ i c.args.j) (rw done at c.loop-c.invariant)
