-- The answer is all that the price check has to show: that an accepted list holds is a theorem.
-- Assumes nothing.
use Prim.Native.Nat.{ℕ}
use mathlib.Core.List.{List}
use mathlib.Core.Path.{◌≡◌, sym, ◌∙◌}
use native.Mathlib.Omega.{arith}
use Rattle.std.specs.Prelude.{Result}
use Rattle.model.specs.declared.Refusal.{Refusal}
use Rattle.model.specs.declared.PriceVerdict.{PriceVerdict}
use Rattle.model.specs.Refusals.{price_refusal}
use Rattle.model.proofs.Refusing.{Left}
use Rattle.pricecheck.proofs.Envy.{check_refused}
use Rattle.model.specs.Replies.{price_reply}
use Rattle.model.specs.Verdicts.{price_check}
use Rattle.model.specs.Promises.{PricesChecked}
use Rattle.welfare.proofs.AcceptedSheet.{accepted_holds}

pub checked : {s owners prices : List ℕ} {r : Result PriceVerdict Refusal} → price_reply r ≡ price_check s owners prices → PricesChecked s owners prices r
checked {s} {owners} {prices} e = record { answer = e; holding = λ a. accepted_holds s owners prices (sym e ∙ a) }

pub not_checked : {s owners prices : List ℕ} {r : Result PriceVerdict Refusal} → Left r (price_refusal s owners prices) → PricesChecked s owners prices r
not_checked L = let p = L.positive in rw L.is (checked (check_refused _ _ _ L.number (λ z. omega (arith, z, p, L.number))))
