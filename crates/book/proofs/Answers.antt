-- For callers of `allocate_book`: what its answer says.
-- Assumes nothing.
use Prim.Native.Nat.{ℕ}
use mathlib.Core.List.{List}
use mathlib.Core.Path.{◌≡◌, sym, ap, ◌∙◌}
use lib.ListN.{length}
use Rattle.finite.proofs.Below.{by_same}
use Rattle.std.specs.Prelude.{Result, Ok}
use Rattle.model.specs.declared.Refusal.{Refusal}
use Rattle.model.specs.declared.BookResult.{BookResult}
use Rattle.model.specs.RefusalNumbers.{number_of}
use Rattle.model.specs.Refusals.{book_refusal}
use Rattle.model.specs.Promises.{BookSharedOut, BookAllocated}
use Rattle.sheet.proofs.OrElse.{or_else_zero}
use Rattle.contents.specs.Fits.{Fits}
use Rattle.contents.proofs.Refusal.{fits}

module _ {book owners prices scratch owners' prices' scratch' : List ℕ} where
  module _ {r : Result BookResult Refusal} (A : BookAllocated book owners prices scratch owners' prices' scratch' r) where
    refusal_is : number_of r ≡ book_refusal book (length owners) (length prices) (length scratch)
    refusal_is =
        by_same (book_refusal book (length owners) (length prices) (length scratch)) 0
        (λ z. ap number_of (A.not_refused z).1 ∙ sym z)
        (λ h. (A.turned_down h).refusal)

  module _ {out : BookResult} (A : BookAllocated book owners prices scratch owners' prices' scratch' (Ok out)) where
    none : book_refusal book (length owners) (length prices) (length scratch) ≡ 0
    none = sym (refusal_is A)

    pub not_refused_lem : BookSharedOut book owners prices scratch owners' prices' scratch' out
    not_refused_lem =
        let shared = A.not_refused none in
        let is = shared.1 in
        let same : out ≡ shared.0 = cc in
        rw same shared.2

    pub refusal_fits : Fits book
    unfolding book_refusal
    refusal_fits = fits book (or_else_zero _ _ none).0
