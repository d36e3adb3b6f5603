-- What antt computes for a case is what it is for the definitions to meet it.
-- Assumes nothing.
use Prim.Native.Nat.{ℕ}
use mathlib.Core.Bool.{Bool, true, false, not, ◌&&◌}
use mathlib.Core.List.{List, [], ◌∷◌}
use mathlib.Core.Path.{◌≡◌, refl, sym, ◌∙◌}
use native.Mathlib.Omega.{arith}
use lib.Dec.{eqb}
use lib.ListN.{get_or}
use lib.Seq.{ext_get_or}
use borrow.Author.Tests.{eqb-true, not-false}
use Rattle.finite.specs.Search.{any_below}
use Rattle.finite.specs.Lists.{some_list}
use Rattle.finite.proofs.Tests.{and_rest}
use Rattle.finite.proofs.Search.{any_none}
use Rattle.finite.proofs.Lists.{list_none}
use Rattle.model.specs.Instance.{Instance, owner_of}
use Rattle.model.specs.Sheet.{as_marked, as_read}
use Rattle.model.specs.Fairness.{dominates, is_allocation}
use Rattle.model.specs.Algorithm.{Outcome, busy, done, lacking, after}
use Rattle.model.specs.Record.{moves_in, record_of}
use Rattle.model.specs.Refusals.{sheet_refusal}
use Rattle.model.specs.Cases.{Case, shared_out, lacks, opens, judged, spelled, lent, lent_book, recorded, lent_record, joins, lent_join, marked, asked, listed, even_to_one, shown, measured, unmeasured, dealt_into, keeps_within, respects, lent_measured, priced, respecting, Shares, Records, Meets, MeetsAll}
use Rattle.model.proofs.Allocations.{allocation_picks}

-- what an outcome shows of a run that has ended
pub data Seen : Type 0 where
  ended : List ℕ → List ℕ → ℕ → ℕ → Seen
  unended : Seen

unfoldable pub seen : Outcome → Seen
seen (busy x) = unended
seen (done x) = ended x.owners x.prices x.moves x.cuts
seen (lacking x) = unended

unfoldable pub is_done : Outcome → Bool
is_done (busy x) = false
is_done (done x) = true
is_done (lacking x) = false

-- some chore has another owner in y than in z
unfoldable pub differs : ℕ → List ℕ → List ℕ → Bool
differs m y z = any_below m (λ c. not (eqb (get_or y c 0) (get_or z c 0)))

-- y passes, and is not z
unfoldable pub passes_too : ℕ → (List ℕ → Bool) → List ℕ → List ℕ → Bool
passes_too m t z y = t y && differs m y z

-- what antt computes for a case; `enough` steps end each run of the table
unfoldable pub Computed : ℕ → Case → Type 0
Computed enough (shared_out s owners prices moves cuts) = (sheet_refusal s ≡ 0) × (seen (after (as_read s) enough) ≡ ended owners prices moves cuts)
Computed enough (opens s owners total) = Meets (opens s owners total)
Computed enough (lacks s x) = Meets (lacks s x)
Computed enough (judged s k) = Meets (judged s k)
Computed enough (spelled s bytes) = Meets (spelled s bytes)
Computed enough (lent s owners prices scratch k) = Meets (lent s owners prices scratch k)
Computed enough (lent_book book owners prices scratch k) = Meets (lent_book book owners prices scratch k)
Computed enough (recorded s bytes) = (sheet_refusal s ≡ 0) × (is_done (after (as_read s) enough) ≡ true) × (record_of (moves_in (as_read s) enough) ≡ bytes)
Computed enough (lent_record s owners prices scratch moves bytes k) = Meets (lent_record s owners prices scratch moves bytes k)
Computed enough (joins first second whole) = Meets (joins first second whole)
Computed enough (lent_join first second bytes k) = Meets (lent_join first second bytes k)
Computed enough (marked first second person chore row) = Meets (marked first second person chore row)
Computed enough (asked first second person chore k) = Meets (asked first second person chore k)
Computed enough (listed s owners slack entries answer) = Meets (listed s owners slack entries answer)
Computed enough (even_to_one s owners answer) = Meets (even_to_one s owners answer)
Computed enough (shown s owners other) =
    (is_allocation (as_marked s) other ≡ true)
    × (dominates (as_marked s) (owner_of other) (owner_of owners) ≡ true)
    × (some_list (as_marked s).n (as_marked s).m (passes_too (as_marked s).m (λ y. dominates (as_marked s) (owner_of y) (owner_of owners)) other) ≡ false)
Computed enough (measured s numbers) = Meets (measured s numbers)
Computed enough (unmeasured s k) = Meets (unmeasured s k)
Computed enough (dealt_into s person bundles) = Meets (dealt_into s person bundles)
Computed enough (keeps_within s owners answer) = Meets (keeps_within s owners answer)
Computed enough (respects s owners) =
    (is_allocation (as_marked s) owners ≡ true)
    × (respecting s owners ≡ true)
    × (some_list (as_marked s).n (as_marked s).m (passes_too (as_marked s).m (respecting s) owners) ≡ false)
Computed enough (lent_measured s entries k) = Meets (lent_measured s entries k)
Computed enough (priced s owners prices answer) = Meets (priced s owners prices answer)

unfoldable pub ComputedAll : ℕ → List Case → Type 0
ComputedAll enough [] = Unit {0}
ComputedAll enough (c ∷ cs) = Computed enough c × ComputedAll enough cs

ran : (s owners prices : List ℕ) (moves cuts k : ℕ) (o : Outcome) → sheet_refusal s ≡ 0 → after (as_read s) k ≡ o → seen o ≡ ended owners prices moves cuts → Shares s owners prices moves cuts
unfolding seen
ran s owners prices moves cuts k (busy x) z e q = let z : ◌≡◌ {A = ℕ} 0 1 = cc in absurd (omega arith)
ran s owners prices moves cuts k (lacking x) z e q = let z : ◌≡◌ {A = ℕ} 0 1 = cc in absurd (omega arith)
ran s owners prices moves cuts k (done x) z e q =
    record {
      taken = z;
      final = x;
      ends = record { steps = k; ends = e };
      owners_are = cc;
      prices_are = cc;
      moves_are = cc;
      cuts_are = cc;
    }

wrote : (s bytes : List ℕ) (k : ℕ) (o : Outcome) → sheet_refusal s ≡ 0 → after (as_read s) k ≡ o → is_done o ≡ true → record_of (moves_in (as_read s) k) ≡ bytes → Records s bytes
unfolding is_done
wrote s bytes k (busy x) z e q b = let z : ◌≡◌ {A = ℕ} 0 1 = cc in absurd (omega arith)
wrote s bytes k (lacking x) z e q b = let z : ◌≡◌ {A = ℕ} 0 1 = cc in absurd (omega arith)
wrote s bytes k (done x) z e q b = record { taken = z; final = x; ends = record { steps = k; ends = e }; bytes_are = b }

-- a search through all lists finds no other list that passes
no_other : (I : Instance) (t : List ℕ → Bool) (z y : List ℕ) → some_list I.n I.m (passes_too I.m t z) ≡ false → is_allocation I z ≡ true → is_allocation I y ≡ true → t y ≡ true → y ≡ z
unfolding passes_too differs
no_other I t z y none hz hy d =
    let Y = allocation_picks I y hy in
    let Z = allocation_picks I z hz in
    let same = and_rest (differs I.m y z) (list_none (passes_too I.m t z) none Y) d in
    ext_get_or 0 y z (Y.size ∙ sym Z.size) λ c l.
    eqb-true (get_or y c 0) (get_or z c 0) (not-false _ (any_none I.m (λ c. not (eqb (get_or y c 0) (get_or z c 0))) same c (rw Y.size at l)))

met : (enough : ℕ) (c : Case) → Computed enough c → Meets c
unfolding Computed Meets
met enough (shared_out s owners prices moves cuts) h = ran s owners prices moves cuts enough (after (as_read s) enough) h.0 refl h.1
met enough (opens s owners total) h = h
met enough (lacks s x) h = h
met enough (judged s k) h = h
met enough (spelled s bytes) h = h
met enough (lent s owners prices scratch k) h = h
met enough (lent_book book owners prices scratch k) h = h
met enough (recorded s bytes) h = wrote s bytes enough (after (as_read s) enough) h.0 refl h.1 h.2
met enough (lent_record s owners prices scratch moves bytes k) h = h
met enough (joins first second whole) h = h
met enough (lent_join first second bytes k) h = h
met enough (marked first second person chore row) h = h
met enough (asked first second person chore k) h = h
met enough (listed s owners slack entries answer) h = h
met enough (even_to_one s owners answer) h = h
met enough (shown s owners other) h =
    record {
      allocation = h.0;
      dominating = h.1;
      only = λ y. no_other (as_marked s) (λ y. dominates (as_marked s) (owner_of y) (owner_of owners)) other y h.2 h.0;
    }
met enough (measured s numbers) h = h
met enough (unmeasured s k) h = h
met enough (dealt_into s person bundles) h = h
met enough (keeps_within s owners answer) h = h
met enough (respects s owners) h =
    record { allocation = h.0; respects_them = h.1; only = λ y. no_other (as_marked s) (respecting s) owners y h.2 h.0 }
met enough (lent_measured s entries k) h = h
met enough (priced s owners prices answer) h = h

pub met_all : (enough : ℕ) (cs : List Case) → ComputedAll enough cs → MeetsAll cs
unfolding ComputedAll MeetsAll
met_all enough [] h = tt
met_all enough (c ∷ cs) h = (met enough c h.0, met_all enough cs h.1)
