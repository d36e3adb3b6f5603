-- The first pair that envies by price, and the answer of the price check.
-- Assumes nothing.
use Prim.Native.Nat.{ℕ, ◌+◌, ◌-◌, ◌≤◌, ◌<◌}
use mathlib.Core.Bool.{Bool, false}
use mathlib.Core.List.{List}
use mathlib.Core.Path.{◌≡◌, refl, ap, ap₂, ◌∙◌}
use native.Mathlib.Nat.{le_refl, zero-sub}
use native.Mathlib.Omega.{arith}
use lib.Dec.{ltb}
use lib.ListN.{length}
use borrow.Author.Tests.{ltb-true, lt-ltb, le-ltb}
use Rattle.finite.proofs.Tests.{by_test, cond_cong}
use Rattle.finite.proofs.Search.{any_none}
use Rattle.finite.proofs.Where.{where_none}
use Rattle.model.specs.Limits.{max_agents}
use Rattle.model.specs.Instance.{Instance, owner_of, price_of}
use Rattle.model.specs.Sheet.{agents_of, chores_of, as_marked}
use Rattle.model.specs.Fairness.{owns, holds_any, total}
use Rattle.model.specs.Prices.{price_sum, dearest, price_up_to_one}
use Rattle.model.specs.Refusals.{price_refusal}
use Rattle.model.specs.Replies.{Reply, refused, off_price, price_envy, accepted}
use Rattle.model.specs.Verdicts.{first_of_pair, second_of_pair, unless_refused, first_off_price, envies_by_price, price_verdict, price_check}
use Rattle.model.proofs.Pairs.{pair_cong, second_cong}
use Rattle.welfare.proofs.Answered.{refused_told}
use Rattle.totals.specs.Totals.{Summed}
use Rattle.pricecheck.specs.Parts.{above, outpays, envy_verdict}

-- what the search for the first pair means for the answer
module _ {n : ℕ} (t : ℕ → ℕ → Bool) where
  pub envy_none : first_of_pair n t ≡ n → accepted ≡ envy_verdict n t
  unfolding envy_verdict
  envy_none all = rw (all, le-ltb n n (le_refl n))

  pub envy_found : {i j : ℕ} → i < n → i ≡ first_of_pair n t → j ≡ second_of_pair n t → price_envy (i + 1) (j + 1) ≡ envy_verdict n t
  unfolding envy_verdict
  envy_found {i} below first second = rw (← first, ← second, lt-ltb i n below)

-- the answer goes by what the test says below n
verdict_cong : (n : ℕ) {t u : ℕ → ℕ → Bool} → ((i j : ℕ) → i < n → j < n → t i j ≡ u i j) → envy_verdict n t ≡ envy_verdict n u
unfolding envy_verdict
verdict_cong n {t} {u} same =
    let first : first_of_pair n t ≡ first_of_pair n u = pair_cong n same in
    cond_cong (ap (λ i. ltb i n) first)
    (λ h. ap₂ (λ i j. price_envy (i + 1) (j + 1)) first (second_cong n same (rw first (ltb-true (first_of_pair n u) n h))))
    (λ _. refl)

-- the lists stand for the definitions
pub above_is : {owners prices sums ups : List ℕ} {n : ℕ} → n ≤ max_agents → Summed n owners prices sums ups → envy_verdict n (above ups sums) ≡ envy_verdict n (outpays (length owners) (owner_of owners) (price_of prices))
unfolding above outpays
above_is {n = n} few t = verdict_cong n (λ i j l k. rw (t.up i l, t.sum.entry j (omega arith)))

module _ (I : Instance) (x p : ℕ → ℕ) where
  -- an agent with nothing has a price up to one of 0, which is above no sum
  idle : (i : ℕ) → holds_any I.m x i ≡ false → price_up_to_one I.m x p i ≡ 0
  unfolding holds_any price_up_to_one total
  idle i e =
      ap (λ s. s - dearest I.m x p i) (where_none I.m (owns x i) p (any_none I.m (owns x i) e))
      ∙ zero-sub (dearest I.m x p i)

  outpays_is : (i j : ℕ) → outpays I.m x p i j ≡ envies_by_price I x p i j
  unfolding outpays envies_by_price
  outpays_is i j =
      by_test (holds_any I.m x i) (λ e. rw e)
      (λ e. rw e (le-ltb (price_sum I.m x p j) (price_up_to_one I.m x p i) (omega (arith, idle i e))))

  verdict_off : {r : ℕ} → r ≡ first_off_price I x p → r < I.m → off_price (r + 1) ≡ price_verdict I x p
  unfolding price_verdict
  verdict_off {r} e l = rw (← e, lt-ltb r I.m l)

  -- each chore is best for its owner
  verdict_on : {r : ℕ} → r ≡ first_off_price I x p → I.m ≤ r → envy_verdict I.n (outpays I.m x p) ≡ price_verdict I x p
  unfolding envy_verdict price_verdict
  verdict_on {r} e l = rw (← e, le-ltb r I.m l) (verdict_cong I.n (λ i j _ _. outpays_is i j))

-- the answer, turned down or not
module _ (s owners prices : List ℕ) where
  pub check_refused : {r : ℕ} → r ≡ price_refusal s owners prices → (r ≡ 0 → ⊥) → refused r ≡ price_check s owners prices
  unfolding price_check
  check_refused e h = refused_told _ e h

  module _ {c : ℕ} (fine : price_refusal s owners prices ≡ 0) (first : c ≡ first_off_price (as_marked s) (owner_of owners) (price_of prices)) where
    pub check_off : c < chores_of s → off_price (c + 1) ≡ price_check s owners prices
    unfolding price_check unless_refused as_marked
    check_off l = rw fine (verdict_off (as_marked s) (owner_of owners) (price_of prices) first l)

    pub check_on : {answer : Reply} → length owners ≡ chores_of s → chores_of s ≤ c → answer ≡ envy_verdict (agents_of s) (outpays (length owners) (owner_of owners) (price_of prices)) → answer ≡ price_check s owners prices
    unfolding price_check unless_refused as_marked
    check_on size l e =
        rw fine
        ((rw size at e) ∙ verdict_on (as_marked s) (owner_of owners) (price_of prices) first l)
