-- Demand 3: the theorem on Algorithm 1, for every sheet that breaks no rule.
-- Assumes nothing.
use Prim.Native.Nat.{ℕ}
use mathlib.Core.List.{List}
use mathlib.Core.Path.{◌≡◌, ap, subst, ◌∙◌}
use native.Mathlib.Omega.{arith}
use Rattle.finite.specs.Lists.{Picks}
use Rattle.model.specs.Instance.{Instance, owner_of}
use Rattle.model.specs.Sheet.{as_marked, as_read}
use Rattle.model.specs.Algorithm.{State, done, after, Ends}
use Rattle.model.specs.Refusals.{sheet_refusal}
use Rattle.model.specs.Promises.{Demand3, FewMoves}
use Rattle.model.proofs.Unique.{unique}
use Rattle.model.proofs.Allocations.{picks_allocation}
use Rattle.welfare.proofs.AcceptedSheet.{accepted_fair, accepted_holds}
use Rattle.algorithm.specs.Reached.{Reached}
use Rattle.algorithm.specs.RunMoves.{enough_steps}
use Rattle.algorithm.specs.Theorem.{Theorem}
use Rattle.algorithm.proofs.Reading.{sheet_sound}
use Rattle.algorithm.proofs.Best.{three_prices}
use Rattle.algorithm.proofs.End.{check_accepted}
use Rattle.algorithm.proofs.Machine.{fewer_cuts, moves_bound, clean_cut}
use Rattle.algorithm.proofs.Begin.{opening_reached}
use Rattle.algorithm.proofs.Cheapest.{opening_costs_least}
use Rattle.algorithm.proofs.Ending.{run_ends, reached, never_lacking, done_reached, done_even}

-- a reached state's owners are m numbers from 1 to n
picks : {I : Instance} {s : State} → Reached I s → Picks I.n I.m s.owners
unfolding owner_of
picks R =
    record {
      size = R.shaped.owners;
      positive = R.shaped.numbered;
      bounded = λ c h. omega (arith, R.core.owner c h, R.shaped.numbered c h);
    }

few_moves : {s : List ℕ} {x : State} → Reached (as_read s) x → FewMoves s x
unfolding as_read
few_moves R = record { by_rounds = omega (arith, R.budget); in_all = omega (arith, moves_bound R) }

pub theorem : (s : List ℕ) → sheet_refusal s ≡ 0 → Theorem s
unfolding as_read as_marked
theorem s valid =
    let S = sheet_sound s valid in
    let O = opening_reached S in
    let E = run_ends S O in
    let count = enough_steps (as_read s) in
    let x = E.final in
    let R = done_reached S O count x E.ends in
    let passes = check_accepted s x.owners x.prices valid R.core (picks R) R.shaped.prices (done_even S O count x E.ends) in
    let fair = accepted_fair s x.owners x.prices passes in
    record {
      opens = opening_costs_least S;
      final = x;
      demand3 =
          record {
            ends = record { steps = count; ends = E.ends };
            only = λ y F. unique (as_read s) F.steps count y x F.ends E.ends;
            cuts = fewer_cuts R;
            never_lacks = never_lacking S O;
            allocation = picks_allocation (as_marked s) x.owners (picks R);
            even = fair.0;
            undominated = fair.1;
            passes = passes;
            slacks = accepted_holds s x.owners x.prices passes;
          };
      kinds = three_prices R.core;
      clean = λ k y e q. clean_cut (reached S O k y e) S q;
      few = few_moves R;
    }

-- whatever run ends, it has ended after those steps, in the same state
pub ends_then : (s : List ℕ) → sheet_refusal s ≡ 0 → (x : State) → Ends (as_read s) x → after (as_read s) (enough_steps (as_read s)) ≡ done x
ends_then s valid x F =
    let S = sheet_sound s valid in
    let E = run_ends S (opening_reached S) in
    E.ends ∙ ap done (unique (as_read s) (enough_steps (as_read s)) F.steps E.final x E.ends F.ends)

-- the result is unique, so whatever run ends, its state is the theorem's
same_final : (s : List ℕ) (valid : sheet_refusal s ≡ 0) (x : State) → Ends (as_read s) x → (theorem s valid).final ≡ x
same_final s valid x E =
    let T = theorem s valid in
    let F = T.demand3.ends in
    unique (as_read s) F.steps E.steps T.final x F.ends E.ends

pub demand3_of : (s : List ℕ) → sheet_refusal s ≡ 0 → (x : State) → Ends (as_read s) x → Demand3 s x
demand3_of s valid x E = subst (Demand3 s) (same_final s valid x E) (theorem s valid).demand3

pub few_of : (s : List ℕ) → sheet_refusal s ≡ 0 → (x : State) → Ends (as_read s) x → FewMoves s x
few_of s valid x E = subst (FewMoves s) (same_final s valid x E) (theorem s valid).few
