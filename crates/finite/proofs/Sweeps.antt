-- Laws of a sweep: one pass over the numbers below k, in which each value goes to the entry that x names, whatever the value is of.
-- Assumes nothing.
use Prim.Native.Nat.{ℕ, ◌+◌, ◌*◌, ◌≤◌, ◌<◌}
use mathlib.Core.List.{List}
use mathlib.Core.Path.{◌≡◌, sym, ap, ◌∙◌}
use native.Mathlib.Nat.{le_trans}
use native.Mathlib.Omega.{arith}
use lib.Dec.{eqb}
use lib.ListN.{length, get_or, set, replicate, length-set, length-replicate, get_or-replicate}
use lib.Seq.{get_or-set_same, get_or-set_other}
use borrow.Author.Tests.{eq-eqb, ne_eqb, eqb-true}
use Rattle.finite.specs.Sums.{sum_where, max_where}
use Rattle.finite.specs.Lists.{Table}
use Rattle.finite.proofs.Below.{by_same}
use Rattle.finite.proofs.Sums.{sum_at_most}
use Rattle.finite.proofs.Where.{where_zero, where_hit, where_miss, where_le_sum}
use Rattle.finite.proofs.Extremes.{peak_zero, peak_miss, peak_keep, peak_raise}

-- zeros, where a sweep begins
pub table_zeros : {n : ℕ} {f : ℕ → ℕ} {xs : List ℕ} → ((i : ℕ) → f i ≡ 0) → xs ≡ replicate n 0 → Table n f xs
table_zeros {n} z e =
    record {
      size = ap length e ∙ length-replicate n 0;
      entry = λ i l. ap (λ xs. get_or xs i 0) e ∙ get_or-replicate n i 0 0 l ∙ sym (z i);
    }

-- one entry stored: the others are as they were
pub table-set : {n o v : ℕ} {f g : ℕ → ℕ} {xs : List ℕ} → Table n f xs → o < n → v ≡ g o → ((i : ℕ) → (i ≡ o → ⊥) → g i ≡ f i) → Table n g (set xs o v)
table-set {n} {o} {v} {xs = xs} t l here others =
    record {
      size = length-set xs o v ∙ t.size;
      entry = λ i h.
          by_same i o (λ q. rw (q, get_or-set_same xs o v 0 (omega (arith, t.size))) here)
          (λ ne. get_or-set_other xs o i v 0 ne ∙ t.entry i h ∙ sym (others i ne));
    }

elsewhere : {a o i : ℕ} → a ≡ o → (i ≡ o → ⊥) → a ≡ i → ⊥
elsewhere to ne e = ne (sym e ∙ to)

module _ {n : ℕ} (x f : ℕ → ℕ) where
  -- the sums, and the greatest, of the values that have gone to each entry; none at first
  pub sums_none : {sums : List ℕ} → sums ≡ replicate n 0 → Table n (λ i. sum_where 0 (λ c. eqb (x c) i) f) sums
  sums_none = table_zeros (λ i. where_zero _ f)

  pub tops_none : {tops : List ℕ} → tops ≡ replicate n 0 → Table n (λ i. max_where 0 (λ c. eqb (x c) i) f) tops
  tops_none = table_zeros (λ i. peak_zero _ f)

  -- the value at k goes to entry o
  module _ {k o : ℕ} (to : x k ≡ o) where
    pub sums_next : {v : ℕ} {sums : List ℕ} → Table n (λ i. sum_where k (λ c. eqb (x c) i) f) sums → o < n → v ≡ get_or sums o 0 + f k → Table n (λ i. sum_where (k + 1) (λ c. eqb (x c) i) f) (set sums o v)
    sums_next t l e =
        table-set t l (e ∙ ap (λ s. s + f k) (t.entry o l) ∙ sym (where_hit k (λ c. eqb (x c) o) f (eq-eqb (x k) o to)))
        (λ i ne. where_miss k (λ c. eqb (x c) i) f (ne_eqb (x k) i (elsewhere to ne)))

    -- it is the greatest there so far
    pub tops_raised : {v : ℕ} {tops : List ℕ} → Table n (λ i. max_where k (λ c. eqb (x c) i) f) tops → o < n → v ≡ f k → get_or tops o 0 ≤ f k → Table n (λ i. max_where (k + 1) (λ c. eqb (x c) i) f) (set tops o v)
    tops_raised t l e up =
        table-set t l (e ∙ sym (peak_raise k (λ c. eqb (x c) o) f (eq-eqb (x k) o to) (rw (t.entry o l) at up)))
        (λ i ne. peak_miss k (λ c. eqb (x c) i) f (ne_eqb (x k) i (elsewhere to ne)))

    -- it is not
    pub tops_kept : {tops : List ℕ} → Table n (λ i. max_where k (λ c. eqb (x c) i) f) tops → f k ≤ get_or tops o 0 → Table n (λ i. max_where (k + 1) (λ c. eqb (x c) i) f) tops
    tops_kept t low =
        record {
          size = t.size;
          entry = λ i l.
              t.entry i l
              ∙ sym (peak_keep k (λ c. eqb (x c) i) f (λ e. let same : i ≡ o = sym (eqb-true (x k) i e) ∙ to in rw (← t.entry i l, same) low));
        }

  -- what a sum comes to at most
  pub sums_bound : {k b : ℕ} {sums : List ℕ} → Table n (λ i. sum_where k (λ c. eqb (x c) i) f) sums → ((c : ℕ) → c < k → f c ≤ b) → (i : ℕ) → i < n → get_or sums i 0 ≤ k * b
  sums_bound {k} {b} t most i l = rw (t.entry i l) (le_trans (where_le_sum k (λ c. eqb (x c) i) f) (sum_at_most k b most))
