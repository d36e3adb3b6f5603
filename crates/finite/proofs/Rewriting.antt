-- Laws for a loop that rewrites in place those entries of a list that pass a test.
-- Assumes nothing.
use Prim.Native.Nat.{ℕ, ◌+◌, ◌≤◌, ◌<◌}
use mathlib.Core.Bool.{Bool, true, false, cond}
use mathlib.Core.List.{List}
use mathlib.Core.Path.{◌≡◌, refl, sym, ◌∙◌}
use native.Mathlib.Omega.{arith}
use lib.ListN.{length, get_or, set, take, length-set}
use lib.Seq.{get_or-set_other}
use Rattle.finite.specs.Lists.{tabulate}
use Rattle.finite.proofs.Tests.{by_cond, cond_true, cond_false}
use Rattle.finite.proofs.Lists.{fill_zero, fill_next, fill_keep, fill_at}

-- the first k entries are rewritten, the others as they were
pub record Rewritten (k : ℕ) (t : ℕ → Bool) (f : ℕ → ℕ) (old new : List ℕ) : Type 0 where
  pub sized : length new ≡ length old
  pub front : take k new ≡ tabulate k (λ i. cond (t i) (f i) (get_or old i 0))
  pub rest : (i : ℕ) → k ≤ i → get_or new i 0 ≡ get_or old i 0

pub rewritten_none : (t : ℕ → Bool) (f : ℕ → ℕ) (old : List ℕ) → Rewritten 0 t f old old
rewritten_none t f old = record { sized = refl; front = fill_zero _ old; rest = λ i l. refl }

module _ {k : ℕ} {t : ℕ → Bool} {f : ℕ → ℕ} {old new : List ℕ} where
  -- the entry at k passes
  pub rewritten_set : {v : ℕ} → Rewritten k t f old new → k < length old → t k ≡ true → v ≡ f k → Rewritten (k + 1) t f old (set new k v)
  rewritten_set {v} s l p e =
      record {
        sized = length-set new k v ∙ s.sized;
        front = fill_next _ new (rw s.sized l) (e ∙ sym (cond_true (f k) (get_or old k 0) p)) s.front;
        rest = λ i h. get_or-set_other new k i v 0 (λ q. omega arith) ∙ s.rest i (omega arith);
      }

  -- the entry at k stays
  stays : Rewritten k t f old new → k < length old → get_or old k 0 ≡ cond (t k) (f k) (get_or old k 0) → Rewritten (k + 1) t f old new
  stays s l e =
      record {
        sized = s.sized;
        front = fill_keep _ new (rw s.sized l) (s.rest k (omega arith) ∙ e) s.front;
        rest = λ i h. s.rest i (omega arith);
      }

  -- it does not pass
  pub rewritten_skip : Rewritten k t f old new → k < length old → t k ≡ false → Rewritten (k + 1) t f old new
  rewritten_skip s l p = stays s l (sym (cond_false (f k) (get_or old k 0) p))

  -- it is right already
  pub rewritten_keep : Rewritten k t f old new → k < length old → get_or old k 0 ≡ f k → Rewritten (k + 1) t f old new
  rewritten_keep s l e =
      stays s l (by_cond (λ v. get_or old k 0 ≡ v) (t k) (f k) (get_or old k 0) (λ _. e) (λ _. refl))

pub rewritten_at : {n : ℕ} {t : ℕ → Bool} {f : ℕ → ℕ} {old new : List ℕ} → Rewritten n t f old new → (i : ℕ) → i < n → get_or new i 0 ≡ cond (t i) (f i) (get_or old i 0)
rewritten_at {new = new} s i l = fill_at _ new i 0 l s.front
