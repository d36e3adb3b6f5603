-- A running best: the choice among the numbers below k, as a loop over k keeps it.
-- Assumes nothing.
use Prim.Native.Nat.{ℕ, zero, suc, ◌+◌, ◌≤◌, ◌<◌}
use mathlib.Core.Bool.{Bool, true, false}
use mathlib.Core.Path.{◌≡◌, refl, sym, subst, ◌∙◌}
use native.Mathlib.Nat.{le_refl, le_of_lt}
use native.Mathlib.Numerals.{add-one}
use native.Mathlib.Omega.{arith}
use borrow.Author.Count.{below_none, below_more}
use Rattle.finite.specs.Search.{chosen}
use Rattle.finite.proofs.Tests.{by_test, clash, not_no}
use Rattle.finite.proofs.Below.{by_less}
use Rattle.finite.proofs.Chosen.{Chosen, Order, smaller, smaller_order, chosen_none, chosen_unique, chosen_more, chosen_intro, order_same}

-- r is the choice among the numbers below k; it is n where none of them passes
pub record Running (n k : ℕ) (t : ℕ → Bool) (better : ℕ → ℕ → Bool) (r : ℕ) : Type 0 where
  pub limit : r ≤ n
  pub none : r ≡ n → (i : ℕ) → i < k → t i ≡ false
  pub some : r < n → Chosen k t better r

pub run_zero : (n : ℕ) (t : ℕ → Bool) (better : ℕ → ℕ → Bool) → Running n 0 t better n
run_zero n t better = record { limit = le_refl n; none = λ e. below_none (λ i. t i ≡ false); some = λ l. absurd (omega arith) }

-- at the end it is the choice
pub run_done : {n : ℕ} {t : ℕ → Bool} {better : ℕ → ℕ → Bool} {r : ℕ} → Running n n t better r → r ≡ chosen n t better
run_done {n} {t} {better} {r} s =
    by_less r n (λ l. sym (chosen_unique (s.some l)))
    (λ l. let e : r ≡ n = omega arith in e ∙ sym (chosen_none n t better (s.none e)))

module _ {n k : ℕ} {t : ℕ → Bool} {better : ℕ → ℕ → Bool} {r : ℕ} where
  -- k does not pass
  pub run_skip : Running n k t better r → t k ≡ false → Running n (k + 1) t better r
  run_skip s h =
      record {
        limit = s.limit;
        none = λ e. below_more (λ i. t i ≡ false) k (s.none e) h;
        some = λ l. chosen_more (s.some l) (λ p. absurd (clash p h));
      }

  -- k is not better
  pub run_keep : Running n k t better r → r < n → better k r ≡ false → Running n (k + 1) t better r
  run_keep s l h =
      record {
        limit = s.limit;
        none = λ e. absurd (omega arith);
        some = λ l'. chosen_more (s.some l') (λ p. h);
      }

  -- k passes, and is better than what there is, if there is something
  pub run_take : Order better → Running n k t better r → k < n → t k ≡ true → (r < n → better k r ≡ true) → Running n (k + 1) t better k
  run_take o s l p h =
      record {
        limit = le_of_lt l;
        none = λ e. absurd (omega arith);
        some = λ _. chosen_intro o (omega arith) p (below_more (λ j. t j ≡ true → better j k ≡ false) k best (λ q. order_same o k)) ahead;
      }
    where
      best : (j : ℕ) → j < k → t j ≡ true → better j k ≡ false
      best j m q =
          by_less r n (λ l'. o.through k r j (o.asym k r (h l')) ((s.some l').best j m q))
          (λ l'. absurd (clash q (s.none (omega arith) j m)))

      ahead : (i : ℕ) → i < k → t i ≡ true → better k i ≡ true
      ahead i m q =
          by_less r n (λ l'. not_no (better k i) (λ e. clash (h l') (o.through r i k ((s.some l').best i m q) e)))
          (λ l'. absurd (clash q (s.none (omega arith) i m)))

  -- k is the first that passes
  pub run_first : Order better → Running n k t better r → k < n → t k ≡ true → r ≡ n → Running n (k + 1) t better k
  run_first o s l p e = run_take o s l p (λ h. absurd (omega arith))

-- some number is the running best
pub record Runs (n k : ℕ) (t : ℕ → Bool) (better : ℕ → ℕ → Bool) : Type 0 where
  pub index : ℕ
  pub runs : Running n k t better index

module _ {better : ℕ → ℕ → Bool} (o : Order better) (n : ℕ) (t : ℕ → Bool) where
  pub run_all : (k : ℕ) → k ≤ n → Runs n k t better
  run_all zero l = record { index = n; runs = run_zero n t better }
  run_all (suc k) l = subst (λ m. Runs n m t better) (add-one k) (step (run_all k (le_of_lt l)))
    where
      step : Runs n k t better → Runs n (k + 1) t better
      step s =
          by_test (t k)
          (λ p. by_test (better k s.index)
          (λ b. record { index = k; runs = run_take o s.runs l p (λ _. b) })
          (λ b. by_less s.index n
          (λ h. record { index = s.index; runs = run_keep s.runs h b })
          (λ h. record { index = k; runs = run_first o s.runs l p (omega (arith, s.runs.limit)) })))
          (λ p. record { index = s.index; runs = run_skip s.runs p })

  -- where something passes, something is chosen
  pub chosen_some : (i : ℕ) → i < n → t i ≡ true → chosen n t better < n
  chosen_some i l p =
      let s = run_all n (le_refl n) in
      let e = run_done s.runs in
      by_less (chosen n t better) n (λ h. h)
      (λ h. absurd (clash p (s.runs.none (omega (arith, s.runs.limit)) i l)))

-- of some numbers one is the first of the smallest
pub smallest_some : {n : ℕ} (f : ℕ → ℕ) → 0 < n → chosen n (λ k. true) (smaller f) < n
smallest_some {n} f some = chosen_some (smaller_order f) n (λ k. true) 0 some refl
