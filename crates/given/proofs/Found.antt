-- What the answer of a search below n says: the number that was found is where the search ended, and none was found where it ended at n.
-- Assumes nothing.
use Prim.Native.Nat.{ℕ, ◌≤◌, ◌<◌}
use mathlib.Core.Bool.{Bool}
use mathlib.Core.Path.{◌≡◌, sym, ap, ◌∙◌}
use borrow.Author.Tests.{lt-ltb, le-ltb}
use Rattle.std.specs.Prelude.{Some, None, is_some}
use Rattle.finite.specs.Search.{any_below, first_below, if_below, First}
use Rattle.finite.proofs.Below.{by_less}
use Rattle.finite.proofs.Found.{below_some}
use Rattle.finite.proofs.Search.{found, any_first}

below_over : {n r : ℕ} → n ≤ r → if_below n r ≡ None
unfolding if_below
below_over {n} {r} l = rw (le-ltb r n l)

module _ {n r : ℕ} where
  pub found_is : {i : ℕ} → Some i ≡ if_below n r → (i ≡ r) × (r < n)
  found_is {i} e =
      by_less r n (λ l. let q : Some i ≡ Some r = e ∙ below_some l in (cc, l)) (λ l. let q : Some i ≡ None = e ∙ below_over l in absurd (cc))

  pub found_none : None ≡ if_below n r → n ≤ r
  found_none e =
      by_less r n (λ l. let q : None ≡ Some r = e ∙ below_some l in absurd (cc)) (λ l. l)

-- so a number that was found is the first that passes
pub found_first : {n i : ℕ} (t : ℕ → Bool) → Some i ≡ if_below n (first_below n t) → First n t i
found_first {n} t e = let at = found_is e in rw at.0 (found n t at.1)

-- some number passes where a first one is found
pub any_found : (n : ℕ) (t : ℕ → Bool) → is_some (if_below n (first_below n t)) ≡ any_below n t
any_found n t =
    let r = first_below n t in
    by_less r n (λ l. ap is_some (below_some l) ∙ sym (lt-ltb r n l)) (λ l. ap is_some (below_over l) ∙ sym (le-ltb r n l)) ∙ sym (any_first n t)
