-- A sheet is turned down with its number.
use Rattle.std.specs.Prelude.{◌≡◌, Result, Ok, Err, IsOk, refl}
use Rattle.std.proofs.Common.{arith, ◌∙◌}
use Rattle.model.specs.declared.Refusal.{Refusal}
use Rattle.model.specs.RefusalNumbers.{number_of}
use Rattle.model.proofs.Refusing.{numbered}
use Rattle.pages.proofs.Answering.{refused_text}
use Rattle.why.specs.Told.{unbroken}
use Rattle.why.proofs.told.answer_text.Goals as goal

-- what has no number is not turned down
read : {A : Type 0} (r : Result A Refusal) → number_of r ≡ 0 → IsOk r
read (Ok x) e = refl
read (Err refusal) e = absurd (omega (arith, e, numbered refusal))

pub returns-in-Err : goal.returns-in-Err
returns-in-Err g c = rw (refused_text _ _ c.args.number (c.requires.answered.turned_down _ c.in-Err.is)) c.write_refused_line.ensures

-- a sheet that was shared out breaks no rule, so it is read
pub unwrap-sheet-requires : goal.unwrap-sheet-requires
unwrap-sheet-requires g c = read c.read.result (c.read.ensures.number ∙ unbroken _ (c.requires.answered.shared_out _ c.in-Ok.is).accepted)
