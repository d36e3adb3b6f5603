use Rattle.std.proofs.Common.{◌≡◌, ◌-◌, ◌<◌, length, get_or, refl, arith, rules}
use Rattle.model.specs.Instance.{owner_of}
use Rattle.firsts.specs.Traits.{has_trait}
use Rattle.firsts.proofs.Filling.{filled_none, filled_next, filled_all, nothing_new}
use Rattle.firsts.proofs.table.Table.fill.Goals as goal
use Rattle.firsts.proofs.table.Table.fill.Goals.{else-self-w, then-self-w}

pub loop-c-init : goal.loop-c-init
loop-c-init c = rw (c.fill.ensures.after (λ y h. h), c.fill-2.ensures.after (λ y h. h)) (filled_none _ _ _ _ (record { first_sized = search rules; sets_sized = search rules }) c.requires.agents)

pub loop-c-preserved : goal.loop-c-preserved
unfolding owner_of
loop-c-preserved c =
    let args = c.args in
    let pre = c.requires in
    let at = c.loop-c in
    let x = owner_of args.owners.now in
    let trait = has_trait args.chores.now.prices.now args.chores.now.entitled.now args.chores.now.likes.now args.chores.now.view.free args.chores.now.view.grouped args.chores.now.view.mid args.chores.now.view.top in
    let known : get_or args.owners.now at.c 0 - 1 < args.n = omega (arith, pre.numbered at.c (omega arith), pre.known at.c (omega arith)) in
    filled_next x trait pre.agents (omega arith) refl known at.invariant c.traits-word.ensures
    (elim c.if-self-w.branch [
      | then-self-w w ↦ rw w.self-is w.gain.ensures
      | else-self-w w ↦ rw w.self-is (nothing_new x trait pre.agents (omega arith) refl known at.invariant c.traits-word.result w.if-self-w.false)
    ])

pub returns : goal.returns
returns c =
    let all : c.loop-c.c ≡ length c.args.owners.now = omega arith in
    filled_all _ _ (rw all at c.loop-c.invariant)
