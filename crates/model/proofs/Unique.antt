-- Algorithm 1's result is unique: two numbers of steps that both end give the same state, and the same moves.
-- Assumes nothing.
use Prim.Native.Nat.{ℕ, zero, suc, ◌+◌}
use native.Mathlib.Nat.{add_comm, add-suc, add-zero}
use mathlib.Core.List.{◌++◌, append-nil}
use mathlib.Core.Path.{◌≡◌, sym, ap, ◌∙◌}
use Rattle.model.specs.Instance.{Instance}
use Rattle.model.specs.Algorithm.{State, done, next, after}
use Rattle.model.specs.Record.{next_moves, moves_in}

-- what stays from j on, and from k on, is the same at both
meet : {A : Type 0} (f : ℕ → A) (j k : ℕ) → f (j + k) ≡ f j → f (k + j) ≡ f k → f j ≡ f k
meet f j k d e = sym d ∙ ap f (add_comm j k) ∙ e

module _ (I : Instance) where
  -- a step from the end changes nothing and hands nothing over
  pub stays : (j k : ℕ) {s : State} → after I k ≡ done s → after I (k + j) ≡ after I k
  unfolding next after
  stays zero k e = ap (after I) (add-zero k)
  stays (suc j) k e = ap (after I) (add-suc k j) ∙ ap (next I) (stays j k e ∙ e) ∙ sym e

  adds_none : (j k : ℕ) {s : State} → after I k ≡ done s → moves_in I (k + j) ≡ moves_in I k
  unfolding next_moves moves_in
  adds_none zero k e = ap (moves_in I) (add-zero k)
  adds_none (suc j) k e =
      ap (moves_in I) (add-suc k j) ∙ ap (λ o. moves_in I (k + j) ++ next_moves I o) (stays j k e ∙ e) ∙ append-nil (moves_in I (k + j)) ∙ adds_none j k e

  pub unique : (j k : ℕ) (s t : State) → after I j ≡ done s → after I k ≡ done t → s ≡ t
  unique j k s t d e = cc (meet (after I) j k (stays k j d) (stays j k e))

  pub same_moves : (j k : ℕ) (s t : State) → after I j ≡ done s → after I k ≡ done t → moves_in I j ≡ moves_in I k
  same_moves j k s t d e = meet (moves_in I) j k (adds_none k j d) (adds_none j k e)
