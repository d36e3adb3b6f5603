-- `firsts::traits::traits` meets its contract: step by step, the word is the set of the traits below a bound.
use Rattle.std.proofs.Common.{ℕ, Bool, eqb, sym, ap, ◌∙◌, arith}
use borrow.Author.Tests.{lt-ltb, eq-eqb, ne_eqb}
use Rattle.finite.specs.Bits.{bit, SetOf}
use Rattle.finite.proofs.Tests.{not_on, not_off, cond_true}
use Rattle.finite.proofs.Bits.{set_skip, set-take}
use Rattle.model.specs.Limits.{max_agents}
use Rattle.firsts.specs.Traits.{top_trait, mid_trait, trait_in}
use Rattle.firsts.proofs.traits.traits.Goals as goal
use Rattle.firsts.proofs.traits.traits.Goals.{Joined-price-view, else-entitled-ne1, else-price-view, then-entitled-ne1, then-price-view}

-- up to the top price
up_to_mid : (c : Joined-price-view) → SetOf mid_trait c.if-price-view.word (let a = c.args in trait_in a.price (eqb a.entitled 1) a.likes a.view.free a.view.grouped a.view.mid a.view.top)
unfolding trait_in
up_to_mid c =
    let a = c.args in
    let trait : ℕ → Bool = trait_in a.price (eqb a.entitled 1) a.likes a.view.free a.view.grouped a.view.mid a.view.top in
    let agents : SetOf max_agents c.wanting-word.result trait = record { below = omega arith; member = λ i l. ap (λ v. bit v i) c.wanting-word.ensures ∙ sym (cond_true _ _ (lt-ltb i max_agents l)) } in
    let free : SetOf top_trait c.if-entitled-ne1.word trait = elim c.if-entitled-ne1.branch [
      | then-entitled-ne1 w ↦ rw w.word-is (set-take agents (not_on (ne_eqb _ _ w.if-entitled-ne1.true)))
      | else-entitled-ne1 w ↦ rw w.word-is (set_skip agents (not_off (eq-eqb _ _ w.if-entitled-ne1.false)))
    ] in
    elim c.if-price-view.branch [
      | then-price-view w ↦ rw w.word-is (set-take free (eq-eqb _ _ w.if-price-view.true))
      | else-price-view w ↦ rw w.word-is (set_skip free (ne_eqb _ _ w.if-price-view.false))
    ]

pub returns-then-price-view-2 : goal.returns-then-price-view-2
unfolding trait_in
returns-then-price-view-2 c = set-take (up_to_mid (goal.at.returns-then-price-view-2 c).Joined-price-view) (eq-eqb _ _ c.if-price-view-2.true)

pub returns-else-price-view-2 : goal.returns-else-price-view-2
unfolding trait_in
returns-else-price-view-2 c = set_skip (up_to_mid (goal.at.returns-else-price-view-2 c).Joined-price-view) (ne_eqb _ _ c.if-price-view-2.false)
