-- Algorithm 1 ends: every state of a run is a reached one, no number of steps lacks a chore, and some number of steps ends it.
-- Assumes nothing.
use Prim.Native.Nat.{ℕ, zero, suc, ◌+◌, ◌≤◌, ◌<◌}
use mathlib.Core.Path.{◌≡◌, refl, sym, ap, subst, ◌∙◌}
use native.Mathlib.Nat.{le_refl}
use native.Mathlib.Omega.{arith}
use Rattle.model.specs.Instance.{Instance}
use Rattle.model.specs.Prices.{price_sum, price_up_to_one}
use Rattle.model.specs.Algorithm.{State, Outcome, busy, done, lacking, owner, price, opening, step, next, after}
use Rattle.model.proofs.Unique.{stays}
use Rattle.algorithm.specs.Kinds.{Sound}
use Rattle.algorithm.specs.Reached.{step_number, Reached}
use Rattle.algorithm.specs.RunMoves.{enough_steps}
use Rattle.algorithm.proofs.Machine.{Steps, ended, went, steps}

-- A run that has ended in the state final after so many steps.
pub record Ended (I : Instance) (count : ℕ) : Type 0 where
  pub final : State
  pub ends : after I count ≡ done final

-- What holds of a run's outcome: no price-one is above any sum where it is done, and it never lacks a chore.
Good : Instance → Outcome → Type 0
Good I (busy s) = Reached I s
Good I (done s) = Reached I s × ((i j : ℕ) → i < I.n → j < I.n → price_up_to_one I.m (owner I s) (price I s) i ≤ price_sum I.m (owner I s) (price I s) j)
Good I (lacking s) = ⊥

module _ {I : Instance} (S : Sound I) where
  good_next : (o : Outcome) → Good I o → Good I (next I o)
  unfolding Good next
  good_next (busy s) R = go (steps R S)
    where
      go : Steps I s → Good I (step I s)
      go (ended e even) = subst (Good I) (sym e) (R, even)
      go (went t e U falls) = subst (Good I) (sym e) U
  good_next (done s) g = g
  good_next (lacking s) g = g

  -- a step that goes on lowers the number
  pub step_falls : {s t : State} → Reached I s → step I s ≡ busy t → step_number I t < step_number I s
  step_falls {s} {t} R e = go (steps R S)
    where
      go : Steps I s → step_number I t < step_number I s
      go (ended f even) = let z : ◌≡◌ {A = ℕ} 0 1 = cc in absurd (omega arith)
      go (went u f U falls) = let same : u ≡ t = cc in subst (λ v. step_number I v < step_number I s) same falls

  module _ (R : Reached I (opening I)) where
    good : (k : ℕ) → Good I (after I k)
    unfolding after Good
    good zero = R
    good (suc k) = good_next (after I k) (good k)

    pub reached : (k : ℕ) (s : State) → after I k ≡ busy s → Reached I s
    unfolding Good
    reached k s e = subst (Good I) e (good k)

    pub never_lacking : (k : ℕ) (s : State) → after I k ≡ lacking s → ⊥
    unfolding Good
    never_lacking k s e = subst (Good I) e (good k)

    pub done_reached : (k : ℕ) (s : State) → after I k ≡ done s → Reached I s
    unfolding Good
    done_reached k s e = (subst (Good I) e (good k)).0

    pub done_even : (k : ℕ) (s : State) → after I k ≡ done s → (i j : ℕ) → i < I.n → j < I.n → price_up_to_one I.m (owner I s) (price I s) i ≤ price_sum I.m (owner I s) (price I s) j
    unfolding Good
    done_even k s e = (subst (Good I) e (good k)).1

    -- by induction on a bound for the number of the state
    ends_below : (b k j : ℕ) (s : State) → k + b ≡ j → after I k ≡ busy s → step_number I s < b → Ended I j
    unfolding after next
    ends_below zero k j s q e l = absurd (omega arith)
    ends_below (suc b) k j s q e l = go (steps (reached k s e) S) (ends_below b (suc k) j)
      where
        then : suc k + b ≡ j
        then = omega arith

        go : Steps I s → ((t : State) → suc k + b ≡ j → after I (suc k) ≡ busy t → step_number I t < b → Ended I j) → Ended I j
        go (ended f even) again = let e' = ap (next I) e ∙ f in record { final = s; ends = ap (after I) (sym then) ∙ stays I b (suc k) e' ∙ e' }
        go (went t f U falls) again = again t then (ap (next I) e ∙ f) (omega arith)

    pub run_ends : Ended I (enough_steps I)
    unfolding after enough_steps
    run_ends = ends_below (suc (step_number I (opening I))) 0 _ (opening I) (omega arith) refl (le_refl _)
