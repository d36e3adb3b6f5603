-- `strands::agree` meets its contract: what was read of both sheets is compared in the definition's order.
use mathlib.Core.Path.{sym, ◌∙◌}
use Rattle.std.proofs.Common.{eq-eqb}
use Rattle.std.proofs.lemmas.Bool.{ne_eqb}
use Rattle.finite.proofs.Tests.{clash}
use Rattle.model.specs.Strands.{agree}
use Rattle.strands.proofs.agree.Goals as goal
use Rattle.strands.proofs.agree.Goals.{then-agents, else-agents}

pub returns-then-easy_weight : goal.returns-then-easy_weight
unfolding agree
returns-then-easy_weight c =
    elim c.if-agents.branch [
      | then-agents w ↦
          let easy = sym w.value-is ∙ c.if-easy_weight.true in
          rw (← c.agents.ensures.is, ← c.agents-2.ensures.is, ← w.easy_weight.ensures.is, ← w.easy_weight-then-agents.ensures.is, ← c.difficult_weight.ensures.is, ← c.difficult_weight-then-easy_weight.ensures.is, eq-eqb _ _ w.if-agents.true, easy)
      | else-agents w ↦ absurd (clash c.if-easy_weight.true (w.value-is ∙ ne_eqb _ _ w.if-agents.false))
    ]

pub returns-else-easy_weight : goal.returns-else-easy_weight
unfolding agree
returns-else-easy_weight c =
    elim c.if-agents.branch [
      | then-agents w ↦
          let easy = sym w.value-is ∙ c.if-easy_weight.false in
          c.if-easy_weight.false ∙ sym (rw (← c.agents.ensures.is, ← c.agents-2.ensures.is, ← w.easy_weight.ensures.is, ← w.easy_weight-then-agents.ensures.is, eq-eqb _ _ w.if-agents.true, easy))
      | else-agents w ↦ c.if-easy_weight.false ∙ sym (rw (← c.agents.ensures.is, ← c.agents-2.ensures.is, ne_eqb _ _ w.if-agents.false))
    ]
