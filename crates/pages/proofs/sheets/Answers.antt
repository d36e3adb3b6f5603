-- A book is refused or has a first byte.
use Rattle.std.proofs.Common.{arith, sym, ◌∙◌}
use Rattle.contents.proofs.Refusal.{fits}
use Rattle.model.proofs.Refusing.{numbered}
use Rattle.pages.proofs.Printing.{all_printed, none_printed}
use Rattle.pages.proofs.sheets.Goals as goal

pub count-requires : goal.count-requires
count-requires c = (fits _ (sym c.in-Ok.ensures)).some_byte

pub returns-in-Ok : goal.returns-in-Ok
returns-in-Ok c = c.count.ensures.is ∙ sym (all_printed _ (sym c.in-Ok.ensures))

pub returns-in-Err : goal.returns-in-Err
returns-in-Err c = sym (none_printed _ (λ z. omega (arith, c.in-Err.ensures, numbered c.in-Err.field-0)))
