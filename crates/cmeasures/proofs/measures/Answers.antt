use Rattle.std.proofs.Common.{sym, ◌∙◌}
use Rattle.cmeasures.proofs.measures.Goals as goal

pub returns : goal.returns
returns c =
    let own = c.measures_over.ensures in
    record { answer = c.number_of.ensures ∙ own.answer; at_exit = own.numbers; secured = λ e. own.secured (sym c.number_of.ensures ∙ e) }
