-- Agents connected to a burdened one, and what the test for waste finds.
-- Assumes nothing.
use Prim.Native.Nat.{ℕ, suc, ◌≤◌, ◌<◌}
use mathlib.Core.Bool.{true, false, not, ◌&&◌}
use mathlib.Core.Path.{◌≡◌}
use borrow.Author.Tests.{not-true}
use Rattle.finite.specs.Search.{any_below, First, first_below}
use Rattle.finite.proofs.Tests.{and_elim, and_intro, not_on}
use Rattle.finite.proofs.Search.{any_elim, any_intro}
use Rattle.finite.proofs.Reach.{Via, reach_zero, reach_start, reach_step, reach_mono, reach_added, reach_link}
use Rattle.model.specs.Instance.{Instance}
use Rattle.welfare.specs.Waste.{burdened, passes_on, connected, waste_test}
use Rattle.finite.proofs.Distances.{reach_first, reach_distance}

module _ (I : Instance) (x : ℕ → ℕ) where
  pub connected_zero : (i : ℕ) → connected I x 0 i ≡ burdened I x i
  unfolding connected
  connected_zero i = reach_zero I.n (burdened I x) (passes_on I x) i

  pub connected-burdened : (t i : ℕ) → burdened I x i ≡ true → connected I x t i ≡ true
  unfolding connected
  connected-burdened t i h = reach_start I.n (burdened I x) (passes_on I x) t i h

  pub connected_step : (t i j : ℕ) → j < I.n → connected I x t j ≡ true → passes_on I x i j ≡ true → connected I x (suc t) i ≡ true
  unfolding connected
  connected_step t i j l h e = reach_step I.n (burdened I x) (passes_on I x) t i j l h e

  pub connected_mono : {t u : ℕ} → t ≤ u → (i : ℕ) → connected I x t i ≡ true → connected I x u i ≡ true
  unfolding connected
  connected_mono l i h = reach_mono I.n (burdened I x) (passes_on I x) l i h

  -- n steps are enough
  pub connected_link : (i j : ℕ) → i < I.n → j < I.n → connected I x I.n j ≡ true → passes_on I x i j ≡ true → connected I x I.n i ≡ true
  unfolding connected
  connected_link i j l k h e = reach_link I.n (burdened I x) (passes_on I x) i j l k h e

  -- an agent that one more step connects passes on to one connected before
  pub connected_added : (t i : ℕ) → connected I x (suc t) i ≡ true → connected I x t i ≡ false → Via I.n (burdened I x) (passes_on I x) t i
  unfolding connected
  connected_added t i h k = reach_added I.n (burdened I x) (passes_on I x) t i h k

  -- the number of steps that connects i first
  pub connected_first : (t i : ℕ) → connected I x t i ≡ true → First (suc t) (λ s. connected I x s i) (first_below (suc t) (λ s. connected I x s i))
  unfolding connected
  connected_first t i h = reach_first I.n (burdened I x) (passes_on I x) t i h

  pub connected_distance : (t i : ℕ) → i < I.n → connected I x t i ≡ true → ((s : ℕ) → s < t → connected I x s i ≡ false) → t < I.n
  unfolding connected
  connected_distance t i l h before = reach_distance I.n (burdened I x) (passes_on I x) t i l h before

-- a chore that is difficult for its owner and easy for a connected agent
pub record Waste (I : Instance) (x : ℕ → ℕ) : Type 0 where
  pub chore : ℕ
  pub below : chore < I.m
  pub difficult : I.easy (x chore) chore ≡ false
  pub taker : ℕ
  pub taker_below : taker < I.n
  pub taker_connected : connected I x I.n taker ≡ true
  pub taker_easy : I.easy taker chore ≡ true

pub waste_elim : (I : Instance) (x : ℕ → ℕ) → waste_test I x ≡ true → Waste I x
unfolding waste_test
waste_elim I x e =
    let r = any_elim I.m (λ c. not (I.easy (x c) c) && any_below I.n (λ j. connected I x I.n j && I.easy j c)) e in
    let c = r.index in
    let both = and_elim (not (I.easy (x c) c)) (any_below I.n (λ j. connected I x I.n j && I.easy j c)) r.passes in
    let s = any_elim I.n (λ j. connected I x I.n j && I.easy j c) both.1 in
    let two = and_elim (connected I x I.n s.index) (I.easy s.index c) s.passes in
    record {
      chore = c;
      below = r.below;
      difficult = not-true (I.easy (x c) c) both.0;
      taker = s.index;
      taker_below = s.below;
      taker_connected = two.0;
      taker_easy = two.1;
    }

pub waste_intro : {I : Instance} {x : ℕ → ℕ} → Waste I x → waste_test I x ≡ true
unfolding waste_test
waste_intro {I} {x} w =
    any_intro (λ c. not (I.easy (x c) c) && any_below I.n (λ j. connected I x I.n j && I.easy j c)) w.chore w.below
    (and_intro (not_on w.difficult)
    (any_intro (λ j. connected I x I.n j && I.easy j w.chore) w.taker w.taker_below (and_intro w.taker_connected w.taker_easy)))
