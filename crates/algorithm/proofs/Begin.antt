-- The opening state is a reached one. Of the opening no more is used than `Opened` says.
-- Assumes nothing.
use Prim.Native.Nat.{ℕ, ◌<◌}
use mathlib.Core.Path.{refl}
use native.Mathlib.Nat.{le_of_eq}
use native.Mathlib.Omega.{arith}
use lib.Dec.{ltb}
use borrow.Author.Tests.{le-ltb}
use Rattle.finite.proofs.Counts.{count_none}
use Rattle.model.specs.Instance.{Instance}
use Rattle.model.specs.Step2b.{above}
use Rattle.model.specs.Algorithm.{State, owner, price, group, opening}
use Rattle.model.specs.MostMoves.{round_moves}
use Rattle.algorithm.specs.Kinds.{Sound}
use Rattle.algorithm.specs.Chain.{settled}
use Rattle.algorithm.specs.Reached.{in2b, Reached}
use Rattle.algorithm.specs.Opened.{Beginning}
use Rattle.algorithm.proofs.Chain.{round_room}
use Rattle.algorithm.proofs.Opening.{core_opened, opening_group, opening_entitled, opening_owners_length, opening_prices_length, opening_groups_length, opening_entitled_length, opening_picks, opening_opened}

pub begin_reached : {I : Instance} {s : State} → Sound I → Beginning I s → Reached I s
begin_reached {I} {s} S B =
    let K = core_opened B.opened S B.no_groups B.none_entitled in
    let none : (i : ℕ) → i < I.n → 0 < group I s i → ⊥ = λ i h g. omega (arith, B.no_groups i h) in
    record {
      shaped = B.shaped;
      core = K;
      few = omega (arith, B.no_cuts);
      left = omega (arith, S.some, count_none I.n (λ i. ltb 0 (group I s i)) (λ i h. le-ltb 0 (group I s i) (le_of_eq (B.no_groups i h))));
      bounded = λ i h. omega (arith, B.no_groups i h);
      top = 0;
      entitled = record { order = λ i j hi hj g. absurd (none i hi g); under = λ i hi g. absurd (none i hi g) };
      room = round_moves I.n I.m;
      place =
          in2b B.in2b (λ z. absurd (omega arith))
          (settled (record { quiet = λ i hi g. absurd (none i hi g) }) (round_room I (owner I s) (above I (owner I s) (price I s))));
      budget = omega (arith, B.no_moves, B.no_cuts);
    }

pub opening_begins : (I : Instance) → 0 < I.n → Beginning I (opening I)
unfolding opening
opening_begins I some =
    record {
      shaped = record { owners = opening_owners_length I; prices = opening_prices_length I; groups = opening_groups_length I; entitled = opening_entitled_length I; numbered = (opening_picks I some).positive };
      opened = opening_opened I some;
      no_groups = opening_group I;
      none_entitled = opening_entitled I;
      no_moves = refl;
      no_cuts = refl;
      in2b = refl;
    }

pub opening_reached : {I : Instance} → Sound I → Reached I (opening I)
opening_reached {I} S = begin_reached S (opening_begins I S.some)
