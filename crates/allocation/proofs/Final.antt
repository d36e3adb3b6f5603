-- Laws of the state in which the share-out of a sheet ends.
-- Assumes nothing.
use Prim.Native.Nat.{ℕ, ◌≤◌, ◌<◌}
use mathlib.Core.Bool.{true, false}
use mathlib.Core.List.{List}
use mathlib.Core.Path.{◌≡◌}
use native.Mathlib.Omega.{arith}
use lib.ListN.{length}
use borrow.Author.Tests.{eqb-true, eq-eqb, ne_eqb}
use Rattle.model.specs.Limits.{max_agents}
use Rattle.model.specs.Sheet.{chores_of, as_read}
use Rattle.model.specs.Algorithm.{State}
use Rattle.model.specs.MostMoves.{most_ever}
use Rattle.model.specs.Refusals.{sheet_refusal}
use Rattle.model.specs.Promises.{Demand3, FewMoves}
use Rattle.sheet.proofs.Refusal.{valid}
use Rattle.algorithm.specs.RunMoves.{state_in}
use Rattle.algorithm.specs.Theorem.{Theorem}
use Rattle.algorithm.proofs.Theorem.{theorem, ends_then}
use Rattle.allocation.specs.Final.{accepts, final_of}
use Rattle.runs.proofs.Running.{most_moves_lem, ended_shaped}

module _ (s : List ℕ) where
  pub accept : sheet_refusal s ≡ 0 → accepts s ≡ true
  unfolding accepts
  accept z = eq-eqb (sheet_refusal s) 0 z

  pub turn_down : (sheet_refusal s ≡ 0 → ⊥) → accepts s ≡ false
  unfolding accepts
  turn_down h = ne_eqb (sheet_refusal s) 0 h

  pub accepted : accepts s ≡ true → sheet_refusal s ≡ 0
  unfolding accepts
  accepted e = eqb-true (sheet_refusal s) 0 e

  module _ (z : sheet_refusal s ≡ 0) where
    -- what the theorem says of its final state holds of this one
    final_theorem : (P : State → Type 0) → ((T : Theorem s) → P T.final) → P (final_of s)
    unfolding final_of state_in
    final_theorem P h =
        let T = theorem s z in
        rw (ends_then s z T.final T.demand3.ends) (h T)

    pub final_demand3 : Demand3 s (final_of s)
    final_demand3 = final_theorem (Demand3 s) (λ T. T.demand3)

    pub owners_long : length (final_of s).owners ≡ chores_of s
    unfolding as_read
    owners_long = (ended_shaped (valid s z) final_demand3.ends).owners

    pub prices_long : length (final_of s).prices ≡ chores_of s
    unfolding as_read
    prices_long = (ended_shaped (valid s z) final_demand3.ends).prices

    pub final_few : FewMoves s (final_of s)
    final_few = final_theorem (FewMoves s) (λ T. T.few)

    pub few_moves : (final_of s).moves ≤ most_ever
    few_moves = omega (arith, final_few.in_all, most_moves_lem (valid s z))

    pub few_cuts : (final_of s).cuts < max_agents
    few_cuts = omega (arith, final_demand3.cuts, (valid s z).agents_fit)
