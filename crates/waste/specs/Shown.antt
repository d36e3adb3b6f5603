-- What the search for a dominating list answers and leaves.
use Rattle.std.specs.Prelude.{ℕ, Bool, true, false, List, ◌≡◌}
use Rattle.model.specs.Instance.{owner_of}
use Rattle.model.specs.Sheet.{as_marked}
use Rattle.model.specs.Fairness.{dominated}
use Rattle.model.specs.Promises.{Dominating}

pub record WasteShown (s owners lent lent' : List ℕ) (r : Bool) : Type 0 where
  pub answer : r ≡ dominated (as_marked s) (owner_of owners)
  pub shown : r ≡ true → Dominating s owners lent lent'
  pub kept : r ≡ false → lent' ≡ lent
