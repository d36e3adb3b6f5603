-- A refused sheet decides by itself.
use Rattle.std.proofs.Common.{◌∙◌, arith}
use Rattle.model.proofs.Refusing.{numbered}
use Rattle.cchecks.proofs.PriceChecks.{refused_sheet}
use Rattle.cchecks.proofs.check_prices.Goals as goal

pub returns-in-Err : goal.returns-in-Err
returns-in-Err c =
    let p = numbered c.in-Err.refusal in
    refused_sheet _ _ _ (c.from.ensures ∙ c.in-Err.ensures) (λ z. omega (arith, z, p, c.from.ensures))
