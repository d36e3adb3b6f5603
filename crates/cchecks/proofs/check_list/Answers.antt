use mathlib.Core.Path.{◌∙◌}
use Rattle.cmodel.proofs.Verdicts.{told_as}
use Rattle.cchecks.proofs.check_list.Goals as goal

pub returns : goal.returns
returns c =
    let checked = c.check_list.ensures in
    record {
      answer = told_as checked.answer c.list_number.ensures;
      shown = checked.shown;
      kept = checked.kept;
      larger = λ h. checked.larger (checked.answer ∙ h);
    }
